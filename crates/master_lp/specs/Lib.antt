-- The words of contracts here.
pub mod Answer
