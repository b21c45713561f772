pub mod Tests
pub mod Texts
pub mod Copies
pub mod Decimals
pub mod Splitting
pub mod Signed
