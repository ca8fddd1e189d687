pub mod Ends
pub mod Faults
pub mod Files
pub mod Market
pub mod Reads
