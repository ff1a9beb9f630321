pub mod Threads
pub mod Begun
