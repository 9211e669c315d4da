pub mod Boxes
pub mod Formulas
pub mod Laws
pub mod Placements
pub mod Rotations
