pub mod SectionLists
pub mod GroupLists
pub mod Placed
pub mod Conditions
mod KnownValues
pub mod Counts
pub mod SectionCounts
pub mod Members
mod KnownRanges
pub mod FormFacts
pub mod TaskLists
