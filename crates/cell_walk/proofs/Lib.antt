pub mod Hues
pub mod Skips
pub mod Steps
pub mod Turns
pub mod White
