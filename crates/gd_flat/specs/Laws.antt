-- That flatness as a task keeps its laws.
pub mod Accepts
pub mod Evidences
pub mod Feature
pub mod Firsts
pub mod Refutations
pub mod Task
