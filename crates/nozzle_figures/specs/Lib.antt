pub mod NozzleMoves
pub mod Laws
pub mod ProductSums
