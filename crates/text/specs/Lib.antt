pub mod Text
pub mod Page
pub mod Decimal
pub mod Lists
pub mod Writer
