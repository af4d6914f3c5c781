pub mod Scheme
pub mod Judging
pub mod Answer
pub mod Free
