mod Lifted
mod Named
mod Sized
mod StayNew
mod Turns
