pub mod Below
pub mod Causes
pub mod CfgErrorTexts
pub mod CommandLaws
pub mod Commands
pub mod ErrorTexts
pub mod Outcomes
pub mod Shapes
