pub mod Edges
pub mod Graph
pub mod Node
pub mod Rows
