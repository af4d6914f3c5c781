pub mod Placed
pub mod Filled
pub mod CodeWords
pub mod CodeStages
pub mod StageLaws
pub mod Transposing
pub mod TurnedRows
