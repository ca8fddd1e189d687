pub mod Curve
pub mod Segment
pub mod Point
pub mod Implied
pub mod Laws
