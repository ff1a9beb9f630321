pub mod Scripts
pub mod SoFar
