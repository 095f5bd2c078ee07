-- Other crates cite these.
pub mod Cuttings
pub mod Leaves
pub mod Starts
