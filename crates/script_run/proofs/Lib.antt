pub mod PlacedLaws
pub mod SectionLaws
pub mod TranscriptLaws
pub mod JudgeLaws
pub mod DrillLaws
mod DrillWorked
