pub mod ListLaws
mod FieldLaws
mod Worked
