-- What is read so far, as the crate above cites it.
pub mod Parser
pub mod StageIn
