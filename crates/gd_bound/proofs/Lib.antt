pub mod Chosen
pub mod Firsts
pub mod Groups
pub mod Highest
pub mod Refuting
pub mod Written
