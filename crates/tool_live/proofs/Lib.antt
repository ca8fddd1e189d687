mod Asked
mod Ended
mod FeedEnded
pub mod Fronts
mod Heard
mod Lines
mod Pieces
mod Played
mod Replied
