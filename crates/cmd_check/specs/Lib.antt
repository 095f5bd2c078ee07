-- Other crates cite Checks. The rest is for contracts here alone.
pub mod Checks
pub mod Reading
pub mod Replies
