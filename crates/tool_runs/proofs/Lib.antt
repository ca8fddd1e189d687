mod Alike
mod Fronts
mod Going
mod Moving
mod Renumbered
mod SoFar
pub mod Sums
mod Telling
