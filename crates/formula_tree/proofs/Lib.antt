pub mod Trees
pub mod Measured
pub mod Mapped
pub mod FunctionNames
