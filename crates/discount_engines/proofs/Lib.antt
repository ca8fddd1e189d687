pub mod Products
pub mod Summed
pub mod Sums
pub mod WorthLemmas
