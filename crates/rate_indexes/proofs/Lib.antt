pub mod FactorLemmas
pub mod FixingLemmas
