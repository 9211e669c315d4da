pub mod Right
pub mod Wrong
pub mod Means
pub mod Answers
pub mod Written
pub mod Rules
