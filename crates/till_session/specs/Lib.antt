pub mod Counters
pub mod Course
pub mod DeskCounters
pub mod Ends
pub mod SessionEnds
