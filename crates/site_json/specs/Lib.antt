pub mod Figures
pub mod Sessions
pub mod Nozzles
pub mod Points
pub mod ShiftProducts
pub mod Tills
pub mod Transactions
pub mod SiteData
