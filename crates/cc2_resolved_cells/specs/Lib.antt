pub mod Bytes
pub mod Cells
pub mod Reading
pub mod Short
pub mod Tables
pub mod Values
pub mod Writers
