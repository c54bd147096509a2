pub mod NozzleMoves
pub mod ProductSums
