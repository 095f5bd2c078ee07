-- Other crates cite Bounded.
pub mod Bounded
