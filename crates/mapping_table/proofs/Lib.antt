pub mod Refill
pub mod LedLaws
pub mod MoveLaws
pub mod WordLaws
pub mod LatestLaws
