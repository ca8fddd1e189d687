pub mod Appending
pub mod Daily
pub mod Folding
pub mod Parred
pub mod Rated
pub mod Steps
