pub mod Pushed
pub mod Found
pub mod Reading
pub mod Cells
pub mod Ordered
pub mod Same
