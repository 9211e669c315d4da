pub mod Listing
pub mod Conditions
pub mod KnownValues
