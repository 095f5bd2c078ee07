pub mod Pieces
pub mod LinkRows
pub mod BlockRows
pub mod PointLines
