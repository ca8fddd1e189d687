pub mod Limits
pub mod Schedules
pub mod Appended
pub mod Bonds
pub mod Swaps
pub mod Forwards
