pub mod Lists
pub mod Shows
pub mod Records
pub mod Settled
pub mod Rests
