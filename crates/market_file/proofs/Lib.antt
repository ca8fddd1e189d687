mod Given
mod Fields
mod Composed
mod Served
pub mod Built
mod KeyRows
mod FirstFault
