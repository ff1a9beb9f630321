pub mod Values
pub mod Order
pub mod Environment
pub mod Tables
pub mod Snapshots
