pub mod Curves
pub mod Lines
pub mod Report
pub mod ReportRows
pub mod Rows
pub mod Verdict
