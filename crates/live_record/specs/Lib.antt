pub mod Replays
pub mod Records
