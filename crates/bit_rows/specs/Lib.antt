pub mod Ranked
pub mod Row
pub mod Words
