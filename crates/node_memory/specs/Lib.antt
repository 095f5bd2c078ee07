-- Other crates cite Pools. The rest is for contracts here alone.
pub mod Pools
pub mod Wide
pub mod Nodes
