-- Other crates cite these.
pub mod CommandLine
pub mod Orders
-- Contracts of this crate cite these.
pub mod Parts
pub mod Tables
