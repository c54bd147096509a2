pub mod Beginnings
pub mod Givings
