pub mod Book
pub mod Turning
pub mod Parts
pub mod Starting
