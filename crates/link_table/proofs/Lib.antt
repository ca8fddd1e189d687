pub mod Maps
pub mod Counting
pub mod Fitting
