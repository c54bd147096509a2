pub mod Counted
pub mod Devices
pub mod Transfer
