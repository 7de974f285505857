pub mod EndLaws
pub mod PlaceLaws
