pub mod Joined
pub mod Room
