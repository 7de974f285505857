pub mod Headers
pub mod Bits
pub mod Worked
