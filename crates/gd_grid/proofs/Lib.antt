pub mod Centres
pub mod Grids
pub mod Halves
pub mod InTurn
mod KnownValues
pub mod Middles
pub mod Numbers
pub mod Ranges
pub mod Steps
pub mod Widths
