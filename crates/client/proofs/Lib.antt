pub mod Agreed
pub mod Parts
