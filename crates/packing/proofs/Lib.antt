mod Counting
pub mod Fields
pub mod Bounds
pub mod Apart
pub mod Changed
pub mod JudgeCases
