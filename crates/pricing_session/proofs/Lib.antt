pub mod Asks
pub mod Found
mod Refused
