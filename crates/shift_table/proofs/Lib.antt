pub mod EachNumber
pub mod NoFloats
