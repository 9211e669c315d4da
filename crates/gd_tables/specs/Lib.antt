pub mod Words
pub mod Kinds
pub mod Ranges
pub mod Listed
pub mod Grammar
pub mod Seen
