-- Other crates cite Sizes.
pub mod Sizes
