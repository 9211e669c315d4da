pub mod Encloses
pub mod Grid
pub mod Inner
pub mod KnownValues
pub mod Polynomials
pub mod Rigid
pub mod Sizes
pub mod Widths
