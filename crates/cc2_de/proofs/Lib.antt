mod Environment
mod TokensHidden
pub mod Chosen
pub mod ConfigLists
pub mod Configs
pub mod Copied
pub mod FileCauses
pub mod Inside
pub mod Loads
pub mod LoadsOver
pub mod LoadsUnder
pub mod Made
pub mod Over
pub mod Rows
