mod Between
mod Columns
mod Orders
