pub mod RangeTests
pub mod GroupLaws
pub mod RunLaws
pub mod ShareLaws
pub mod HalfLaws
pub mod LastLaws
