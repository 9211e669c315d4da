pub mod Limits
pub mod Scales
pub mod Names
pub mod Numerals
pub mod Causes
