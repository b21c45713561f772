pub mod Distance
pub mod Search
pub mod Division
pub mod Error
pub mod Tables
