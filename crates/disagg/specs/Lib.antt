-- Other crates cite Spreads.
pub mod Spreads
