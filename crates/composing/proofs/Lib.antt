pub mod Composing
pub mod CodeComposed
