pub mod Calls
pub mod FileEnds
pub mod Opening
pub mod Steps
pub mod There
