pub mod Names
pub mod Numbers
pub mod Reading
pub mod SealPlaces
