pub mod Digits
pub mod Letters
pub mod Addresses
pub mod Slices
