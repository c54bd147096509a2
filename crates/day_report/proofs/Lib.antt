pub mod EachProduct
pub mod JoinedTexts
pub mod NoFloats
