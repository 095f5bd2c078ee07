-- Words of contracts here alone.
pub mod Pages
