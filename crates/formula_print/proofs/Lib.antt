pub mod TreeTokens
pub mod Derived
pub mod Parting
pub mod Spelled
pub mod Cut
pub mod Calls
pub mod ReadBack
