-- Other crates cite this.
pub mod Reading
