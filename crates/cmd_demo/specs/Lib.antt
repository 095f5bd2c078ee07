-- Other crates cite Demos.
pub mod Demos
