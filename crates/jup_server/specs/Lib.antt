pub mod Servers
pub mod Steps
pub mod Answers
