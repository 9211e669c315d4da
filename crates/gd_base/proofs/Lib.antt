pub mod NameLemmas
pub mod Numerals
pub mod KnownValues
