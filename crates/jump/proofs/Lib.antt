pub mod Counted
pub mod Jumps
