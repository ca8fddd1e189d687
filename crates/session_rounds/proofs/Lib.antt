mod Asking
mod Fitting
pub mod Going
mod Hearing
mod Known
mod Larger
mod Passing
mod Plays
mod Staying
pub mod Stopping
mod Taken
