pub mod Conditions
pub mod KnownValues
