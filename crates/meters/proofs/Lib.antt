pub mod Bounds
pub mod Cells
pub mod KeptTotals
pub mod Lookups
pub mod Weights
pub mod WorkedMeters
