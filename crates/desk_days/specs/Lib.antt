pub mod Days
pub mod Demos
pub mod Faults
pub mod Sections
