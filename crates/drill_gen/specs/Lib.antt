pub mod Drill
pub mod Drawing
