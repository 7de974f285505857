pub mod Woven
pub mod Books
pub mod Turns
pub mod Work
