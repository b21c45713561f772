pub mod Bytes
pub mod Sampled
