pub mod Day
pub mod Shift
pub mod Tenor
pub mod Text
