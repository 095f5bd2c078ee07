-- Other crates cite all of these.
pub mod Searches
pub mod Ends
pub mod Below
pub mod Resumed
