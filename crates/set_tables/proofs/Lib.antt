pub mod CoverLaw
pub mod RowLaws
pub mod MatchLaws
pub mod UpdateLaws
pub mod SearchLaws
pub mod SharingLaws
