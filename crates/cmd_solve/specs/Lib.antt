-- Other crates cite all of these.
pub mod Solves
pub mod Saves
pub mod Crews
