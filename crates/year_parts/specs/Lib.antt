pub mod Basis
pub mod Parts
