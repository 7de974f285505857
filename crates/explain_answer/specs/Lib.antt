pub mod Explained
pub mod Runs
