mod Artifacts
mod FreeSettings
mod Putting
mod Shown
pub mod CargoEnv
pub mod CargoLoaded
pub mod Found
pub mod Loaded
