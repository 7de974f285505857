pub mod Berths
pub mod Growing
pub mod KindLaws
pub mod Entering
pub mod Accepting
