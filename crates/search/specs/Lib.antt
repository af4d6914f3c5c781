pub mod Won
