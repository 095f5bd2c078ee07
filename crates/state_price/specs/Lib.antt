-- Other crates cite Kept. The rest are words of contracts here alone.
pub mod Arranged
pub mod Kept
