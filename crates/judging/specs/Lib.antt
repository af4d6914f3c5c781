pub mod Order
pub mod Judging
pub mod Answer
pub mod Certificates
pub mod InWords
pub mod Drawings
pub mod FirstVertices
