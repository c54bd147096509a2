pub mod Takings
pub mod NoFloats
