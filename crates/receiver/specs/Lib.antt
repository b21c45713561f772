pub mod Needs
pub mod Samples
