pub mod Bounds
pub mod Apart
pub mod Changed
pub mod RecordCases
pub mod Calls
