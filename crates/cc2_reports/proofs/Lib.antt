mod Blanks
mod Keys
mod Members
mod Plain
mod Positions
mod TableMembers
mod Uris
pub mod Appended
pub mod InTurn
pub mod Locations
pub mod Outcomes
pub mod Selected
