pub mod Pages
pub mod Pieces
