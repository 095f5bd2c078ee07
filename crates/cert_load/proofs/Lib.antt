pub mod Reaching
pub mod CutPrograms
pub mod Frames
pub mod Cutting
pub mod Carried
