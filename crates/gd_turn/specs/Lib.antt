pub mod Boxes
pub mod Covers
pub mod Places
pub mod Ranges
