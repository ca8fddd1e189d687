mod Both
pub mod Following
mod Lines
mod Logs
pub mod Meanings
mod Reading
