pub mod Files
pub mod Calls
pub mod DiskState
