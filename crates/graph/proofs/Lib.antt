pub mod Rows
pub mod Drawn
pub mod Formed
pub mod CodeAnswers
pub mod Settings
pub mod Relabelling
pub mod CountLaws
