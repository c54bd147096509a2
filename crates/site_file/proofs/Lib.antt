pub mod EverySite
pub mod Fit
pub mod Lists
pub mod Members
pub mod ByNumber
pub mod OfTree
pub mod Trees
pub mod WorkedFiles
