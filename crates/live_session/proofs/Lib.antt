pub mod Deliveries
pub mod Holding
pub mod PushedOwn
mod Working
mod Sends
