mod Deliveries
mod Asking
pub mod Endings
mod Noting
mod Completed
mod Exact
pub mod Outputs
mod UnmetLines
mod Goings
mod FormLaws
