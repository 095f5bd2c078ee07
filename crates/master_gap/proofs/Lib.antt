pub mod Steps
pub mod LeastLaws
pub mod Bounds
pub mod Ends
