pub mod AppendLemmas
pub mod LiveLemmas
pub mod PartsLemmas
pub mod PeriodLemmas
pub mod Products
