-- Other crates cite these.
pub mod Files
-- Words of contracts here alone.
pub mod Fronts
