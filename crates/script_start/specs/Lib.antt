pub mod Refusals
pub mod Scripted
pub mod Meeting
