pub mod Arrangement
