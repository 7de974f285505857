pub mod Additions
pub mod ElementLines
