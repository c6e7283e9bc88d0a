pub mod Linkers
pub mod Toolchains
