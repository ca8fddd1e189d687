pub mod Examples
pub mod Fits
pub mod Log
pub mod Pricing
