pub mod KeptItems
pub mod KeptSets
pub mod GapLaws
pub mod LazyLaws
pub mod Refusals
pub mod SetsLaws
pub mod TableLaws
