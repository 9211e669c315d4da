pub mod Beside
pub mod Records
pub mod Fields
pub mod Again
pub mod Marks
pub mod Used
mod KnownValues
pub mod Tables
pub mod More
pub mod Ordered
pub mod ByNumber
pub mod NextGroup
