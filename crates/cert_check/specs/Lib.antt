-- Words of contracts of those who judge whole certificates.
pub mod Judging
