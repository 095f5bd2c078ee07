-- Crates of reports cite Lines and Kinds.
pub mod Lines
pub mod Kinds
pub mod Blocks
pub mod Searches
