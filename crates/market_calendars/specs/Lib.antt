pub mod Calendars
pub mod Building
pub mod Keys
pub mod Weekend
pub mod Places
pub mod Making
pub mod Reader
