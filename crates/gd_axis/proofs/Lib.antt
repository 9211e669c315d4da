pub mod Among
pub mod AxisSizes
mod AxisValues
pub mod LineLoops
pub mod Moves
pub mod Near
pub mod PlaceFacts
pub mod Powers
pub mod Radius
pub mod RootExtremes
pub mod Roots
pub mod SignProducts
