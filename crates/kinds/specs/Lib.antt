pub mod Kinds
pub mod Kind
