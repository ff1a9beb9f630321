pub mod Histories
pub mod Ranges
pub mod Effects
pub mod Lasts
pub mod Causes
pub mod Sends
