pub mod Masks
pub mod Found
