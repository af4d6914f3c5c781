pub mod Used
pub mod Stops
pub mod Tried
