pub mod Among
pub mod Blocks
pub mod Decisions
mod KnownValues
pub mod Leading
pub mod Sizes
pub mod Steps
