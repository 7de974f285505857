pub mod Bytes
mod Shelves
