pub mod Answered
pub mod Calling
pub mod Climbing
pub mod Giving
pub mod Laddering
pub mod Logging
pub mod Quoting
pub mod Siding
