pub mod Answering
pub mod Causes
pub mod Chosen
pub mod Exits
pub mod Finds
pub mod Rows
pub mod Settled
