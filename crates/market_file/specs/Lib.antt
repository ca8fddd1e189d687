pub mod Fault
pub mod Document
pub mod Top
pub mod Paths
pub mod Market
pub mod Standing
pub mod FirstFault
