pub mod Compared
pub mod Reported
pub mod Texts
