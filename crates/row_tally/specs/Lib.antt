pub mod Jumps
pub mod Moments
pub mod Readings
pub mod Runs
pub mod ShiftTimes
pub mod Tally
