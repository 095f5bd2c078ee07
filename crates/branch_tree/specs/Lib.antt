pub mod Turns
pub mod Groves
pub mod Adopted
pub mod Loads
