pub mod Memory
pub mod Shelf
