-- That a group of conditions as a task keeps its laws.
pub mod Boxes
pub mod Evidence
pub mod Task
