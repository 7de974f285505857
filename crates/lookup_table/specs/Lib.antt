pub mod Table
pub mod Rules
pub mod Rows
pub mod Lines
pub mod Width
pub mod Laws
pub mod Summary
pub mod Candidates
