pub mod Late
pub mod Market
pub mod Objects
pub mod Parts
pub mod Scratch
pub mod Shape
pub mod Slots
pub mod Store
