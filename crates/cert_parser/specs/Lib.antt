pub mod Readers
pub mod Telling
pub mod Standing
-- Words of contracts of those who read the text of a certificate.
pub mod Builders
