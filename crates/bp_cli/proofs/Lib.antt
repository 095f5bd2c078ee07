pub mod OneOrder
pub mod Words
pub mod PlainForm
pub mod Truth
pub mod Headlines
