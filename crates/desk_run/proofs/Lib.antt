pub mod FirstSection
pub mod LogLaws
pub mod Opening
pub mod Taking
pub mod Telling
