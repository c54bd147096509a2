pub mod Laws
pub mod MeteredVolumes
pub mod Nozzles
pub mod Places
pub mod Reports
