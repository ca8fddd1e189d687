pub mod Coupon
pub mod Node
pub mod Split
pub mod Built
pub mod Kept
pub mod Par
pub mod Laws
pub mod Examples
