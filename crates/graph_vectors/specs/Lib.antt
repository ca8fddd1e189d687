pub mod Nets
pub mod Moves
pub mod Watched
