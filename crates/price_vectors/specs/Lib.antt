pub mod Inputs
