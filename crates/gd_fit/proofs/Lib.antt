mod KnownValues
pub mod Listed
