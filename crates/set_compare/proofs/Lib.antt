mod Worked
pub mod CutLaws
pub mod HoldLaws
pub mod RegionLaws
pub mod SearchLaws
