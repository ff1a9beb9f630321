pub mod Seen
pub mod RowLines
pub mod ValueLines
pub mod ValueTexts
pub mod Appended
pub mod Within
