pub mod Chains
pub mod RuleNames
pub mod Rules
pub mod RulesReading
pub mod RulesText
pub mod Judged
pub mod JudgedText
pub mod Unmet
