pub mod Calls
pub mod Positionals
