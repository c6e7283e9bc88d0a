pub mod Target
pub mod TargetReading
pub mod Telling
