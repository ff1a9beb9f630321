mod InPlace
mod Kept
mod Mapped
mod Pair
mod Remapped
mod Sorted
pub mod Replaced
