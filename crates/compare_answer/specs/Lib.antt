pub mod Ending
pub mod Verdict
pub mod Compared
pub mod Plain
pub mod Told
