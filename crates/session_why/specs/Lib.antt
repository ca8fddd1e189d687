pub mod Computed
pub mod Curves
pub mod Lasts
pub mod Over
