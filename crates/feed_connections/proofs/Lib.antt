pub mod Serving
pub mod Turning
