pub mod Carried
pub mod Pieces
