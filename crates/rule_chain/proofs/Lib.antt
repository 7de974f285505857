pub mod RulesLaws
pub mod RulesFronts
pub mod SoundLaws
pub mod FileLaws
pub mod JudgedLaws
pub mod DecidingLaws
pub mod LineLaws
pub mod UnmetLaws
mod Worked
