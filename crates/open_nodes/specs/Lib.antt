-- Other crates cite Trees, Nodes, Queues and Filled. The rest is for contracts here alone.
pub mod Trees
pub mod Nodes
pub mod Queues
pub mod Filled
pub mod Bounds
pub mod Paths
pub mod Changes
pub mod Shared
pub mod Turned
