-- Other crates cite Generates.
pub mod Generates
