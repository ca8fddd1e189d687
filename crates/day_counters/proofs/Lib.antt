pub mod CastLemmas
pub mod Rows
pub mod ThirtyLemmas
pub mod YearLemmas
