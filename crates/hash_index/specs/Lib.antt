pub mod Indexed
pub mod Numbers
