pub mod Blocks
pub mod Requests
pub mod Tells
