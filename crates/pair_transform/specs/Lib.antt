pub mod AxisMaps
pub mod SheetMaps
pub mod Sorts
pub mod Changes
pub mod StayingLines
pub mod Staying
