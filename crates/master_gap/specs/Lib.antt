-- Other crates cite these.
pub mod Restricted
pub mod Ranges
