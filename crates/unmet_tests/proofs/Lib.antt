pub mod PlanLaws
mod Worked
