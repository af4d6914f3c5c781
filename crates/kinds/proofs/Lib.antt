pub mod KindLaws
pub mod PlaceLaws
pub mod ReachedLaws
pub mod ColumnLaws
