pub mod Needs
pub mod Quiet
