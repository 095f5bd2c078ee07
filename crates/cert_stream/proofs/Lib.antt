pub mod Stepping
pub mod Waiting
pub mod Finishing
pub mod Streaming
pub mod Alike
