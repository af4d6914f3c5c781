pub mod Buffer
pub mod Reached
pub mod PutLaws
