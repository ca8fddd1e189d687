mod CastLemmas
pub mod CountLemmas
pub mod ListedLemmas
pub mod Rows
mod StretchLemmas
mod SundayLaw
