pub mod Inputs
pub mod Reads
pub mod Works
pub mod Given
pub mod Noted
pub mod Seen
