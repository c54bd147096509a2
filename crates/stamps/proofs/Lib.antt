pub mod Octets
pub mod Times
