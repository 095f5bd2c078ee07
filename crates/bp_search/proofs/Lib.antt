pub mod Running
pub mod Final
pub mod Beside
pub mod Writable
pub mod Extending
pub mod Resuming
pub mod Watched
