pub mod PartLaws
pub mod EveryLaws
pub mod LineLaws
pub mod GraphLaws
pub mod RefusedLaws
pub mod RestLaws
