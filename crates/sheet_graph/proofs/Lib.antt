pub mod Building
pub mod Filled
pub mod Gathered
pub mod Lists
pub mod Seats
pub mod Spans
pub mod StoredCells
pub mod Within
