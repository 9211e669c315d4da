mod Forest
mod Outcomes
pub mod Rows
mod Steps
mod Writing
