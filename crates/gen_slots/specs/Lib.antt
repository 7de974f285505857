pub mod SlotMachine
pub mod SlotRuns
pub mod SlotRule
pub mod SlotSteps
pub mod SlotViews
pub mod RuleLaws
