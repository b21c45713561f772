pub mod Laws
pub mod Expected
