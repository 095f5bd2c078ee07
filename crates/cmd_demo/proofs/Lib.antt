pub mod Certified
pub mod Replies
