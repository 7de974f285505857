pub mod Lines
pub mod Seats
