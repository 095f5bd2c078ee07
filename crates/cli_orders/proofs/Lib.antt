pub mod Needs
pub mod OtherName
pub mod Stated
pub mod Line
pub mod Presence
pub mod Tables
pub mod Taken
pub mod Refusal
