pub mod Graph
pub mod Lent
pub mod WellFormed
pub mod Counts
pub mod Answers
