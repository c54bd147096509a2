pub mod NamedSites
