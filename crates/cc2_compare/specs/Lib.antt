pub mod Between
pub mod Differences
pub mod Maps
pub mod Reads
pub mod Reports
pub mod TargetSettings
pub mod ValuePaths
pub mod Words
