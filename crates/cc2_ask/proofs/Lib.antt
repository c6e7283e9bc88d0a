pub mod Requests
pub mod Listed
pub mod Turns
pub mod Written
