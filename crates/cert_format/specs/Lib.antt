-- Other crates cite Cert, Nodes, Text, Fault, Frames, Sketch, Preorder, Written, Plain and Kept. The rest are words of the contracts here and of
-- those that read and write.
pub mod Cert
pub mod Ascending
pub mod Nodes
pub mod Text
pub mod Fault
pub mod Laws
pub mod Sketch
pub mod Preorder
pub mod SketchLines
pub mod Written
pub mod Plain
pub mod Grammar
pub mod Words
pub mod Versions
pub mod Frames
pub mod Signed
pub mod Kept
pub mod Spots
pub mod Stages
pub mod Reached
