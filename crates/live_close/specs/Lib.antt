pub mod Recorded
pub mod Parts
pub mod Closing
