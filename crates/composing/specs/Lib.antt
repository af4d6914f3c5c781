pub mod Composed
pub mod Answers
