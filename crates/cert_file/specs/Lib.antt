-- Other crates cite these.
pub mod Appends
