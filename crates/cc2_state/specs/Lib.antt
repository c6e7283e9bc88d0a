pub mod State
pub mod Shown
pub mod Slots
pub mod Views
