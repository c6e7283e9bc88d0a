pub mod Asked
pub mod Finding
pub mod Given
pub mod Settings
pub mod Sources
pub mod Variables
