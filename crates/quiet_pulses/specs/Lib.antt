pub mod Quiet
pub mod Needs
