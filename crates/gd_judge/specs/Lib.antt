pub mod Judged
pub mod Means
pub mod Outcomes
