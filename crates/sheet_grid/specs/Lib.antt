pub mod Numbers
pub mod Kept
pub mod Rows
pub mod Numbering
pub mod Values
pub mod Cells
