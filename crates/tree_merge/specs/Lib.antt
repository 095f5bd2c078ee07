-- Other crates cite Merging and Merges. The rest are words of contracts here alone.
pub mod Merging
pub mod Coming
pub mod Opens
pub mod Laws
pub mod Merges
