pub mod Lists
pub mod Openings
pub mod Sends
pub mod Starts
