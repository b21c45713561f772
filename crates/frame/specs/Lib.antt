pub mod Format
pub mod Frame
pub mod Forecast
pub mod Low
