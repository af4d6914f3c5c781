pub mod CodePen
