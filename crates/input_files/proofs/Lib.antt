pub mod Reading
pub mod Turns
pub mod Telling
mod SeenLaws
pub mod RulesFiles
