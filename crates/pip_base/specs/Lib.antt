pub mod Causes
pub mod Picks
pub mod Whole
pub mod Schedule
pub mod MemShelf
pub mod MemSink
pub mod Notes
