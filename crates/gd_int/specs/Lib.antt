pub mod Comparisons
pub mod Division
pub mod Roots
