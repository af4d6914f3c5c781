pub mod Mirrored
pub mod CodeEntries
pub mod CodeFits
pub mod Standing
pub mod CodeStanding
pub mod Halves
