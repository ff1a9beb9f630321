pub mod LivePlayed
pub mod Reads
