pub mod Commands
pub mod Refused
pub mod Repeats
pub mod Utf8
