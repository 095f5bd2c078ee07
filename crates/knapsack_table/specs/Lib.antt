-- Other crates cite Taken and Rooms. The rest are words of contracts here alone.
pub mod Loads
pub mod Tables
pub mod Taken
pub mod Choices
pub mod Rooms
pub mod Parts
pub mod Narrowed
