-- Other crates cite these.
pub mod Faults
pub mod Checks
pub mod Seen
pub mod Wholes
pub mod Streams
