pub mod KeptRows
pub mod Laws
