pub mod Cells
mod KnownValues
