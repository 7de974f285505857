pub mod PartLaws
pub mod TwoParts
