pub mod Boxes
pub mod Covers
pub mod Directions
pub mod Faces
pub mod FormBoxes
pub mod FormPlaces
pub mod Forms
