pub mod SiteRuns
pub mod Lines
pub mod Readings
