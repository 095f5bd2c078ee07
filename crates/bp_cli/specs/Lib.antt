-- No other crate cites these: they are words of contracts here.
pub mod Running
pub mod Headline
pub mod Promises
