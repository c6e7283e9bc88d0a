pub mod AtKey
pub mod CellLaws
pub mod Forms
pub mod Json
pub mod Reader
pub mod TomlLines
pub mod TomlPlaces
pub mod Trees
