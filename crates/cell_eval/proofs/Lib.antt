pub mod Alike
mod Limits
mod Runs
mod Stacks
