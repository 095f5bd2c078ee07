-- Other crates cite Rowless.
pub mod Rowless
