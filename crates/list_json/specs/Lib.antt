pub mod JsonValues
pub mod JsonSets
pub mod JsonListing
