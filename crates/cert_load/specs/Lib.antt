-- Other crates cite all of these.
pub mod Loadings
pub mod Recut
