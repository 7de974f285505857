pub mod Prefixes
pub mod Views
pub mod States
