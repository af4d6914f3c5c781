pub mod SizeLaws
pub mod StartLaws
pub mod Accepted
pub mod WriteLaws
pub mod RecordBits
pub mod WrittenRead
pub mod ReadWritten
pub mod Refused
