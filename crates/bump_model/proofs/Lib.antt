pub mod Calls
pub mod Moving
pub mod Asking
pub mod Bumping
pub mod Each
