pub mod Encloses
pub mod KnownValues
pub mod Nests
pub mod Products
pub mod Quotients
pub mod RootOrder
pub mod Wholes
pub mod Widths
