pub mod CargoLoads
pub mod CargoTargets
pub mod CrateTargets
pub mod Outcomes
pub mod Settings
pub mod Worlds
