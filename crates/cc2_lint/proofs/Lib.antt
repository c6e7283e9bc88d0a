pub mod Asked
pub mod Found
pub mod InTurn
pub mod ListAt
pub mod Refused
