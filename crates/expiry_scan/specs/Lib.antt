pub mod Expired
pub mod Soonest
