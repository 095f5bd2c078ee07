-- Other crates cite these.
pub mod Outcomes
pub mod Endings
