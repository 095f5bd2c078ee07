-- Other crates cite both.
pub mod Blocked
pub mod Cuts
-- Words of contracts here alone.
pub mod Fitting
