pub mod BookRows
