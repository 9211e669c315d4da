pub mod Boxes
pub mod Conditions
pub mod Extremes
pub mod Refutations
pub mod Seen
pub mod Shorts
pub mod Tests
pub mod Values
