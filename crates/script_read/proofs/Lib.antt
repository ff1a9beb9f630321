pub mod Cuts
pub mod Within
pub mod Spaced
pub mod Forms
pub mod Found
pub mod Lines
