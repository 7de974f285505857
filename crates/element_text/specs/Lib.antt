pub mod ElementText
pub mod Kept
