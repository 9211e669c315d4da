pub mod Cells
pub mod Coordinates
pub mod Laws
pub mod Turns
