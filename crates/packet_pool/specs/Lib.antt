pub mod Draws
pub mod CounterLaws
pub mod Section
pub mod Running
pub mod Work
