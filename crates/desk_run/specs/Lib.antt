pub mod DeskText
