pub mod Fields
pub mod BigEndian
pub mod Packing
