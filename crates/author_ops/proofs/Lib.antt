pub mod Fronts
pub mod Intended
pub mod Formulas
pub mod Denoting
pub mod Remapped
pub mod Shifted
pub mod Runs
pub mod Ordered
