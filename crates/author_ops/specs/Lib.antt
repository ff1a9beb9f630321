pub mod Numbers
pub mod Entries
pub mod Copies
pub mod Orders
pub mod Edits
pub mod Placed
