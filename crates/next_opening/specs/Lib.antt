pub mod NextOpening
pub mod Obstacles
