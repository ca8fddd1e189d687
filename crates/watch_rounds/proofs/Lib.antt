pub mod Places
pub mod Tallies
pub mod Stays
pub mod Courses
