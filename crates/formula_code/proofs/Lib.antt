pub mod Calls
mod Choices
