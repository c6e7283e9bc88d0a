pub mod Appended
mod Keys
mod Pairs
mod ShowFound
pub mod Shown
