pub mod Pairs
pub mod RowsBefore
