-- What the graphs of layers are that crates above make and pass over.
pub mod Graphs
