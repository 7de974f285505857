pub mod Holders
pub mod Matched
