pub mod UnmetText
