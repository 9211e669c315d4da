pub mod Grid
pub mod Halves
pub mod Laws
pub mod Meaning
pub mod Nodes
pub mod Witnesses
