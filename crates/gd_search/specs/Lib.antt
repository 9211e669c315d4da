pub mod Lines
pub mod Outcomes
pub mod Rows
pub mod Stops
