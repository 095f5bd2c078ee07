-- Other crates cite all of these.
pub mod Cut
pub mod Words
pub mod Parts
pub mod Faults
pub mod Scan
pub mod State
