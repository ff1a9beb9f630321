mod Addressed
mod Appending
mod Faults
mod Turns
mod Holding
mod Reached
mod SiteLines
