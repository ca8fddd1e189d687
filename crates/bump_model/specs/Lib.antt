pub mod Asking
pub mod Laws
pub mod Moves
pub mod Quotes
pub mod Rows
pub mod Sides
