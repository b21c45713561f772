pub mod Expected
