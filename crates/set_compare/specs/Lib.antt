pub mod Missing
pub mod Search
