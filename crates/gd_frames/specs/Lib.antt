pub mod Combinations
pub mod Groups
pub mod Needs
pub mod Counts
pub mod Files
pub mod Facts
pub mod Tallies
pub mod Entries
