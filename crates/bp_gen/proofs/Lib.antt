pub mod Draws
pub mod Pushed
