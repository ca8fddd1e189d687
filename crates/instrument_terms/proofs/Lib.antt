mod LawLemmas
mod PartLemmas
pub mod RangeLemmas
