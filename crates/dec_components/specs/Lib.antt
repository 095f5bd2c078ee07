-- Other crates cite Joined.
pub mod Joined
pub mod Forest
