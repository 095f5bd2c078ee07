-- Other crates cite Rows and Text.
pub mod Rows
pub mod Listing
pub mod Text
