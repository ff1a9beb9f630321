pub mod Sessions
pub mod Pushing
pub mod Pulling
