pub mod Changes
pub mod Desks
pub mod Evaluations
pub mod Publishing
pub mod Standing
