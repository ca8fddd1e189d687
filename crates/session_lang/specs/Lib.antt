pub mod Given
pub mod Statement
pub mod Reading
pub mod Gathered
pub mod Printing
pub mod FirstFault
