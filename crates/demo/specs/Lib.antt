pub mod Faults
pub mod Flow
pub mod Lines
pub mod Reading
pub mod Reports
pub mod Script
