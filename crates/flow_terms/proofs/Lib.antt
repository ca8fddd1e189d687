pub mod FixingLemmas
