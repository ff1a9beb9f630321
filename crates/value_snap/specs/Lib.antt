pub mod Kept
pub mod Lists
pub mod Log
pub mod Parts
pub mod Refusals
pub mod Showing
pub mod Stores
pub mod Views
