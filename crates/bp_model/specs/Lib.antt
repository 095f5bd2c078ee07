-- Other crates cite all of these.
pub mod Named
pub mod Parts
pub mod Miss
pub mod Tidy
pub mod Dec
