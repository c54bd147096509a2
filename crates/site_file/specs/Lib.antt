pub mod ByNumber
pub mod Faults
pub mod Keys
pub mod Laws
pub mod Saying
pub mod SiteFile
