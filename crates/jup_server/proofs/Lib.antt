pub mod Along
pub mod Submitted
pub mod Causes
pub mod Answered
