pub mod Histories
pub mod States
