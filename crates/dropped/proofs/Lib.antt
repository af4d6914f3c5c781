pub mod ModeTurned
pub mod KindsStay
pub mod Winning
pub mod Trying
pub mod CodeDropped
