pub mod Certificates
pub mod OneAnswer
pub mod Replies
pub mod Fronts
