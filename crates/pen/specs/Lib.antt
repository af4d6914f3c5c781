pub mod Stored
pub mod Pushed
