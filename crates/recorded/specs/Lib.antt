pub mod Record
pub mod Way
