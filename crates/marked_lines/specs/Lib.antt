pub mod Marks
pub mod Moves
