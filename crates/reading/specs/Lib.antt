pub mod Lines
pub mod Refused
