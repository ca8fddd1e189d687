pub mod Laws
pub mod Live
pub mod Log
pub mod Rows
