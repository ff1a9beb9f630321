pub mod Shown
pub mod Texts
pub mod Rows
pub mod Values
pub mod Operations
