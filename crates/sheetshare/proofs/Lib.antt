pub mod Playing
pub mod Loading
pub mod Reaching
