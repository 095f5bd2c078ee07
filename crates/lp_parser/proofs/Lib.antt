pub mod Steps
pub mod Accepts
pub mod Shown
pub mod Kept
pub mod Good
pub mod Signs
