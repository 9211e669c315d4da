pub mod Texts
pub mod Said
pub mod Groups
pub mod Json
pub mod JsonData
pub mod Reports
