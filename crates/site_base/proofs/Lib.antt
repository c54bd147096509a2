pub mod Cells
pub mod Numbering
pub mod Places
pub mod PointSets
pub mod WorkedAmounts
pub mod PriceRanges
