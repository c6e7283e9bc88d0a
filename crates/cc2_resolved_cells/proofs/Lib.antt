pub mod AllTables
pub mod Names
pub mod ReadBack
pub mod Rows
pub mod Shown
pub mod Written
