pub mod Sizes
pub mod KnownValues
