pub mod Behind
pub mod Projected
pub mod Foretold
pub mod Asked
