pub mod Counts
pub mod Families
pub mod Tallied
pub mod Metrics
