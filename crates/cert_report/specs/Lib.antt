-- Other crates cite all of these.
pub mod Certificates
