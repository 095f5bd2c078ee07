-- Other crates cite Cutting, Plain, PlainSteps and Rows. The rest is for contracts here alone.
pub mod Cutting
pub mod Plain
pub mod Rows
pub mod Rounding
pub mod Bounded
pub mod PlainSteps
