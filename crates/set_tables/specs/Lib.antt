pub mod Rows
pub mod Tables
pub mod Search
pub mod Core
pub mod Sharing
pub mod Laws
