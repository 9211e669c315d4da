pub mod Enclosure
pub mod Formulas
pub mod Interval
pub mod Nests
pub mod Widths
