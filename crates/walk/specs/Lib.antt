pub mod Walk
pub mod Meaning
pub mod Free
pub mod Clause
pub mod Meeting
pub mod Earlier
pub mod Standing
