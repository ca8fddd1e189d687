pub mod Asks
pub mod Begun
pub mod Reads
pub mod Recalcs
pub mod Steps
pub mod Turns
