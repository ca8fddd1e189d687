pub mod Answers
pub mod RunCommand
pub mod Words
