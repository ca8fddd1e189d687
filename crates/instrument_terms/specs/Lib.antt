pub mod Examples
pub mod Flows
pub mod Laws
pub mod Marks
pub mod Parts
