pub mod Ones
pub mod NextLaws
pub mod CodeTurns
pub mod TurnCodes
pub mod Walks
pub mod LastJudged
