-- Other crates cite Pairs and Rooms. The rest are words of contracts here alone.
pub mod Best
pub mod Short
pub mod Pairs
pub mod Rooms
