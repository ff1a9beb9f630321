pub mod Arguments
pub mod ReadBack
