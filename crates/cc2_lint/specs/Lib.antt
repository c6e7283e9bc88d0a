pub mod Accepted
pub mod Answers
pub mod Files
pub mod Listed
pub mod Subjects
pub mod Worlds
