pub mod BookEntries
pub mod Messages
pub mod Hubs
