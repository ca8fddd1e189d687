pub mod Beside
mod Done
mod Learnt
mod LinesRead
mod Said
mod Told
