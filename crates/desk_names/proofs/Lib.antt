mod Copies
pub mod NameLaws
pub mod NameRows
