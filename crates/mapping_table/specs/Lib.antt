pub mod Spared
pub mod Latest
