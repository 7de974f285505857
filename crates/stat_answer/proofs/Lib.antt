mod Worked
mod FigureLaws
mod FieldLaws
