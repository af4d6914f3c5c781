pub mod Plain
pub mod Before
