mod Worked
pub mod DrawLaws
pub mod WorkloadLaws
pub mod FittingLaws
