pub mod Answering
pub mod Rows
pub mod Words
