pub mod FirstBlock
pub mod SplitLaws
pub mod CountLaws
