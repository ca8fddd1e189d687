pub mod Fixings
pub mod Flows
pub mod Laws
pub mod Ranges
