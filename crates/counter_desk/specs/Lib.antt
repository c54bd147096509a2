pub mod KeptHistories
pub mod Marks
pub mod Receipts
pub mod Roots
pub mod Settlement
pub mod Shares
pub mod Work
pub mod Crews
