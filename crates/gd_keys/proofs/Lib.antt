pub mod Lists
pub mod KnownValues
