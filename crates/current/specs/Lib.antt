pub mod Current
pub mod Commands
