pub mod RefusalLaws
pub mod ToldLaws
pub mod SourceLaws
