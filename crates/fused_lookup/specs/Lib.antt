pub mod Words
pub mod Window
pub mod Filled
pub mod Led
pub mod Sieve
pub mod Probe
