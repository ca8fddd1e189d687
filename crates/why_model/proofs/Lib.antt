pub mod Alike
pub mod Listed
pub mod Shown
pub mod Worked
