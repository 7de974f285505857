pub mod Lists
pub mod ControlLaws
pub mod RunLaws
pub mod ReportLaws
