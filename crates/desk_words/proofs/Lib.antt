pub mod Counts
pub mod Numbers
pub mod RunWalk
pub mod WordsRows
