pub mod Commands
pub mod Pairs
pub mod Loading
pub mod Reading
pub mod Versioned
pub mod Room
pub mod Longest
