mod KnownTexts
pub mod Sizes
pub mod Writing
pub mod Numbers
pub mod Cuts
pub mod Views
pub mod Steps
pub mod Lines
pub mod Found
pub mod Whole
pub mod Split
pub mod Again
pub mod Alike
mod KnownReadings
