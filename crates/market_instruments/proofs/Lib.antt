mod PlanLemmas
mod AppendLemmas
mod KnownLemmas
mod KeyRows
