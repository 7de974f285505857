pub mod Paged
pub mod Room
