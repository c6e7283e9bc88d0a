pub mod Back
pub mod Same
