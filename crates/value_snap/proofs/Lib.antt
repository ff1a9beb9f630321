pub mod Fronts
pub mod Adding
pub mod CellValues
pub mod Replays
pub mod Keeping
pub mod Parts
