-- Other crates cite Generator.
pub mod Generator
