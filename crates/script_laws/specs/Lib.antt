pub mod Reports
pub mod Sections
