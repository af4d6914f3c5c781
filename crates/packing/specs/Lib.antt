pub mod Packing
pub mod Telling
