pub mod Meant
pub mod Trees
pub mod Verdict
