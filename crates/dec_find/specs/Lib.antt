-- Other crates cite Guess.
pub mod Guess
