pub mod Numbers
pub mod Fronts
pub mod GetWords
pub mod GetAsked
pub mod Words
pub mod WordForms
pub mod Pages
pub mod FormOptions
