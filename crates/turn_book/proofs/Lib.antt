pub mod Histories
pub mod Numbers
pub mod Allowed
pub mod Handing
pub mod Closing
pub mod Dealing
