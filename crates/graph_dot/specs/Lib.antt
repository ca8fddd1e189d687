pub mod Dot
pub mod Plain
pub mod Rows
