pub mod LogRule
pub mod LogSteps
pub mod LogLaws
