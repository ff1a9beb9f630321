pub mod Played
pub mod Places
pub mod LineGives
