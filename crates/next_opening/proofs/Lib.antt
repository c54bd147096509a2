pub mod FitOpenings
pub mod Beginnings
pub mod ShownPrices
pub mod EachNumber
pub mod NoObstacle
