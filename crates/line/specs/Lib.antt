pub mod Line
pub mod Fields
pub mod Shown
