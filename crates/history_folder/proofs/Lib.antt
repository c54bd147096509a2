pub mod Counting
pub mod HistoryRead
pub mod Lines
pub mod Walking
