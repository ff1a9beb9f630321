pub mod formers
pub mod Ends
pub mod Feed
pub mod Lines
pub mod Lists
pub mod Search
pub mod Streams
