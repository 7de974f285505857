pub mod Writes
pub mod Remarks
pub mod KindText
pub mod ListText
pub mod DumpText
pub mod DumpBuckets
pub mod SummaryText
pub mod PacketLine
