-- Other crates cite all of these.
pub mod Report
pub mod Refusals
