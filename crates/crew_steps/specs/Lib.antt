-- Runs of a crew, and those who cite them, cite these.
pub mod Hands
pub mod States
pub mod Draws
