pub mod Figures
pub mod StatText
