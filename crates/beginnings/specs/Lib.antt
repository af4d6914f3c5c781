pub mod Beginning
pub mod Order
pub mod Search
pub mod Certificate
pub mod Remaining
