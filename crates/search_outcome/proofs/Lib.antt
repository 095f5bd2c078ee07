pub mod Outcomes
pub mod Parts
pub mod Below
pub mod Watched
