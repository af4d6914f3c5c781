pub mod CodeColumns
pub mod ColumnJudged
