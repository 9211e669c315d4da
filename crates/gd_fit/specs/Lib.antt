pub mod Fits
pub mod Laws
pub mod Meant
pub mod Props
pub mod Subjects
pub mod Tests
