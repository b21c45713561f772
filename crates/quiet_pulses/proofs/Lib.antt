pub mod Sent
pub mod Counted
pub mod Heard
pub mod Kept
pub mod Quiet
