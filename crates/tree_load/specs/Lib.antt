-- Words of contracts of those who load certificates' trees.
pub mod Rooms
pub mod Nodes
pub mod Steps
