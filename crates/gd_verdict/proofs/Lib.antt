pub mod Below
pub mod Counted
pub mod Ends
mod KnownValues
pub mod Levels
pub mod Lists
pub mod Meant
pub mod Paths
