pub mod HandLemmas
pub mod Events
pub mod Choosing
