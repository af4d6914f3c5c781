pub mod PairLaws
pub mod ColumnLaws
pub mod Products
pub mod VertexLaws
