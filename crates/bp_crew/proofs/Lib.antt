pub mod Drawing
pub mod Finishing
pub mod GoingOn
