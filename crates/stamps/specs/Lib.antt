pub mod Stamps
pub mod Laws
