pub mod RowCounts
pub mod SealWords
pub mod Stories
pub mod AskedGaps
