mod RunLaws
mod Worked
