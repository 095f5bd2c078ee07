-- Other crates cite Front, Halts, Endings, Answers and Written. The rest is for contracts here alone.
pub mod Reading
pub mod Front
pub mod Halts
pub mod Endings
pub mod Answers
pub mod Written
