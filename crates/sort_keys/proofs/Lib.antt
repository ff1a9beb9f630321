pub mod Keying
