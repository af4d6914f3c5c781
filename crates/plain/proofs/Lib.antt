pub mod Plain
pub mod Before
pub mod Columns
pub mod Modes
pub mod RowOne
