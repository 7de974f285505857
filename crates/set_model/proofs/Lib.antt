pub mod BlockLaws
pub mod ClosedLaws
mod Worked
pub mod LentLaws
