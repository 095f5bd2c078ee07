pub mod Finding
pub mod Descent
mod Loading
