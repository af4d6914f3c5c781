pub mod CodeTests
pub mod CodePlaces
pub mod Permits
pub mod Blocks
