pub mod BlankLaws
pub mod CutLaws
pub mod Worked
pub mod KeptLaws
pub mod FeedPlaces
