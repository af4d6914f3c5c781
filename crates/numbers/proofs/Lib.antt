pub mod WordLaws
pub mod Folding
