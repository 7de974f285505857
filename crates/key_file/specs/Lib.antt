pub mod KeyNames
pub mod Keys
pub mod KeysText
pub mod KeysReading
