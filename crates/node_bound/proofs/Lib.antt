pub mod OnePoint
pub mod Leaves
pub mod Strong
pub mod BoxLemmas
