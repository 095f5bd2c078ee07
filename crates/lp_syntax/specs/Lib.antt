-- Other crates cite all of these but Worth, which is for contracts here alone.
pub mod Number
pub mod Tree
pub mod TreeIn
pub mod Symbols
pub mod Worth
pub mod Roles
pub mod Remaining
