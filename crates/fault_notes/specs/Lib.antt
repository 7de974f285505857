pub mod Refusals
pub mod Hidden
pub mod Told
