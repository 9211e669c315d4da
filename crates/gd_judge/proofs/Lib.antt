pub mod Judging
pub mod KeptLines
pub mod Leaves
pub mod Meant
pub mod Sizes
