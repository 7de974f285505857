pub mod TurnRule
pub mod TurnSteps
pub mod TurnViews
pub mod RuleLaws
