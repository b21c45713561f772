-- The layout of the structs.
pub mod Layout
