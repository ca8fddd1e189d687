pub mod Namer
pub mod Line
pub mod Examples
pub mod Front
