pub mod Answer
pub mod Laws
pub mod Listing
pub mod Rows
pub mod Workings
