pub mod ShiftSums
pub mod ShiftLines
pub mod ShiftObjects
pub mod ShiftTable
