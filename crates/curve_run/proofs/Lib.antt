pub mod Asked
pub mod Calling
pub mod Quoting
pub mod Served
