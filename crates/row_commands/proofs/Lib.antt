pub mod AskedGaps
