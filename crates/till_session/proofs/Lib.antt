pub mod Conversing
pub mod Debts
pub mod Talks
