pub mod Figures
pub mod Counting
pub mod Laws
pub mod Gaps
pub mod Tables
pub mod People
pub mod ReportLines
