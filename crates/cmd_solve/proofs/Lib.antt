pub mod Saving
pub mod Told
pub mod Starting
pub mod CrewEvents
pub mod Parts
pub mod Stopping
