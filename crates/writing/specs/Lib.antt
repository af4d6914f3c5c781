pub mod Along
pub mod Reached
