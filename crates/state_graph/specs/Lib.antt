-- Other crates cite Limits. The rest are words of contracts here alone.
pub mod Windows
pub mod Layers
pub mod Expansions
pub mod Columns
pub mod Merges
pub mod Limits
