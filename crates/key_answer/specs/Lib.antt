pub mod Origin
pub mod Question
pub mod Answer
pub mod Met
pub mod Tracing
pub mod Sections
