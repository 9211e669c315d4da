pub mod ToyLaws
pub mod Toys
