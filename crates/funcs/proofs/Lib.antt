pub mod Alike
mod Counting
mod Filled
mod Floors
mod Found
mod Joined
pub mod Limits
mod Shapes
mod Steps
mod Tallies
mod Walks
