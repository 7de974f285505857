pub mod JoinLaws
mod Worked
