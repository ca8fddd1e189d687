pub mod Examples
pub mod Fixing
pub mod Forecast
pub mod Laws
pub mod Period
