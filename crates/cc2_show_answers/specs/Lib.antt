pub mod Gets
pub mod Resolved
pub mod ShowQuestions
pub mod Sources
pub mod ToldAnswers
pub mod ToldRuns
pub mod Unmerged
