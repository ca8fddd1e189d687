pub mod Allowed
pub mod HasNames
pub mod Laws
pub mod Pricing
pub mod Steps
pub mod Values
pub mod Watchers
