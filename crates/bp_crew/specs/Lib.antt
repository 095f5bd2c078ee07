-- Other crates cite Runs.
pub mod Runs
