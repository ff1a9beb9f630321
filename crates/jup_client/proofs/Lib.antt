pub mod Causes
pub mod OnePassed
pub mod Stays
pub mod Longer
