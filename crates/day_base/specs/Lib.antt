pub mod Ends
pub mod Plans
pub mod HousePlans
pub mod Texts
