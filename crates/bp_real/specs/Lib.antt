pub mod Asked
pub mod Apart
pub mod Obstacles
