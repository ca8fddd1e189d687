pub mod Order
pub mod Due
pub mod Round
pub mod Course
pub mod Stands
pub mod Rows
