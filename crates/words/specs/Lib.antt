pub mod Placed
pub mod Stage
