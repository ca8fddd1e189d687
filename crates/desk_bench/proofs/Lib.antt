pub mod Answered
pub mod Summed
