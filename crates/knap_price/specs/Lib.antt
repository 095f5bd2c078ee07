-- Other crates cite Kept.
pub mod Kept
