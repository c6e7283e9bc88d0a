pub mod Fields
pub mod Records
pub mod Givens
pub mod Needs
pub mod Replies
pub mod Views
pub mod Written
