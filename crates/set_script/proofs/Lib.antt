pub mod ValueDecides
pub mod ScriptLaws
pub mod ScriptWhole
pub mod ExpressionLaws
pub mod TableLaws
mod Worked
pub mod RunLaws
pub mod ScriptFronts
