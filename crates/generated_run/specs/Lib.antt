pub mod Generator
pub mod Turns
pub mod Runs
pub mod Tallies
pub mod Summary
pub mod Sameness
pub mod Held
