pub mod Several
-- Other crates cite Taken.
pub mod Taken
