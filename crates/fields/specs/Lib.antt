pub mod Bits
pub mod Field
pub mod Reader
