pub mod Accrued
pub mod Fixed
pub mod Laws
pub mod Price
pub mod Rows
pub mod Yield
