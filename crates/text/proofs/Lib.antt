pub mod Pages
pub mod Writers
pub mod Decimals
pub mod Signs
pub mod Commas
pub mod Poured
pub mod Lengths
