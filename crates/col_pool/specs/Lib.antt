-- Other crates cite Pools and Stores. The rest is for contracts here alone.
pub mod Pools
pub mod Stores
pub mod Inside
pub mod Indexed
