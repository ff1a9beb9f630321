mod Doing
mod Parts
mod Lining
mod Going
