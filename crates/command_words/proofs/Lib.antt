pub mod FrontLaws
pub mod CommandWords
mod ClapValues
mod ClapPasses
mod WordValues
pub mod PageWords
mod AskedLaws
mod Worked
pub mod PageBounds
mod FormLaws
