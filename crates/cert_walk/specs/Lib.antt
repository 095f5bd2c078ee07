-- Words of contracts of those who judge lines as they come.
pub mod Turns
pub mod Laws
pub mod Paths
pub mod Walks
pub mod Cuttings
