pub mod Shown
pub mod Source
pub mod OtherKind
pub mod Marked
