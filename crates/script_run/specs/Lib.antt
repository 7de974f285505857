pub mod Drill
pub mod Listings
pub mod Telling
