pub mod BitLaws
pub mod TakenLaws
