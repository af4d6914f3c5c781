pub mod CodeRows
pub mod AlikeRows
pub mod RowWords
pub mod SureRow
pub mod FixedRow
