pub mod TargetReads
pub mod TargetRows
pub mod Targets
