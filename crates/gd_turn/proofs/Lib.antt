pub mod Assignments
pub mod Coordinates
pub mod Covers
pub mod Holds
pub mod ImageWidths
mod KnownValues
pub mod Nests
