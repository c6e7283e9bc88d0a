pub mod Gives
pub mod Layers
pub mod RawJson
