pub mod Wire
pub mod Transports
pub mod Ip
pub mod Links
pub mod Values
