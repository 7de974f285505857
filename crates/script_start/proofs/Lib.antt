pub mod Resting
pub mod Done
