pub mod Rate
pub mod Tables
