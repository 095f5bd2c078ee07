-- Other crates cite Shows.
pub mod Shows
-- Other crates cite all of these.
pub mod Detects
pub mod DetectFiles
-- Other crates cite all of these.
pub mod Proposes
pub mod ProposeFiles
