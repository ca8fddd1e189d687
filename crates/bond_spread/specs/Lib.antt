pub mod Rows
pub mod Spread
