pub mod Later
pub mod Sites
pub mod Printed
