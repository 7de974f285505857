pub mod Index
pub mod Image
