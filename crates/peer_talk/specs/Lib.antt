pub mod Exchanges
pub mod Talks
pub mod Text
