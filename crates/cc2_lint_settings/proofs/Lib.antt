pub mod Bare
pub mod ByCells
pub mod Holding
pub mod Programs
pub mod Refusals
pub mod Setters
pub mod Told
