pub mod Ahead
pub mod Ended
mod Headlines
pub mod Loaded
pub mod Played
pub mod Progress
pub mod Reported
pub mod Summed
pub mod Tallies
