pub mod FlowLemmas
pub mod FactorLemmas
pub mod YieldLemmas
