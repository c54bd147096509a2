pub mod Takings
pub mod Text
pub mod Columns
pub mod People
pub mod Figures
pub mod Products
pub mod Json
