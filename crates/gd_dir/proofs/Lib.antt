pub mod Enclosure
pub mod Candidates
pub mod FormCells
pub mod Halves
mod KnownValues
pub mod Lines
pub mod Ratios
