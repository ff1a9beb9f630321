pub mod Ranges
pub mod Counting
pub mod SameTrees
pub mod SameSheets
pub mod HeldRows
pub mod Within
pub mod Sites
pub mod HowMany
