mod Worked
mod LineLaws
mod TraceLaws
mod AnswerLaws
