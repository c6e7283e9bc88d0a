pub mod ByRow
pub mod Cells
pub mod Tokens
