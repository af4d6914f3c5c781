pub mod Kept
pub mod Enough
pub mod Settled
