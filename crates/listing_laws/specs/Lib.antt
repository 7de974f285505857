pub mod Relisted
pub mod Rising
pub mod Listed
pub mod Listing
