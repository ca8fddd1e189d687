-- The limits of the terms of indexes and flows (this project's limits).
use Rattle.std.specs.Prelude.{◌≡◌, ◌≤◌, ◌<ℤ◌, ℕ, List, length, Option, Some, None, ℤ, pos}
use Rattle.std.specs.Int.{IsInRange}
use Rattle.std.specs.List.{All}
use Rattle.jiff_core.specs.Calendar.{IsBetween, IsWithin}
use Rattle.day_number.specs.Tenor.{IsTenor}
use Rattle.flow_terms.specs.declared.limits.TheConstants.{MOST_NOTIONAL, MOST_AMOUNT, MOST_PARTS, MOST_FIXING_DAYS, MOST_FLOWS}
use Rattle.flow_terms.specs.declared.indexes.IndexTerms.{IndexTerms}
use Rattle.flow_terms.specs.declared.flows.FlowTerm.{FlowTerm}
use Rattle.flow_terms.specs.declared.flows.FlowTerm.TheVariants.{Known, Float, Forward}
use Rattle.flow_terms.specs.declared.flows.FlowTerms.{FlowTerms}
use Rattle.flow_terms.specs.Fixings.{IsRate}
use Rattle.flow_terms.specs.Flows.{fixed_on}

-- at most 30 fixing days, and a tenor within its unit's limit
pub record IsIndexInRange (terms : IndexTerms) : Type 0 where
  pub fixing_days : terms.fixing_days ≤ MOST_FIXING_DAYS
  pub tenor : IsTenor terms.tenor

-- a notional within 10^18 units either way
abbrev pub IsNotional : ℤ → Type 0
IsNotional notional = IsWithin MOST_NOTIONAL notional

-- a period that starts before it ends, where there is one
abbrev pub IsInOrder : Option (ℤ × ℤ) → Type 0
IsInOrder None = Unit {0}
IsInOrder (Some (start, end)) = start <ℤ end

-- a flow whose amount or notional, rate and parts are within their limits, and whose period starts before it ends
abbrev pub IsFlow : FlowTerm → Type 0
IsFlow (Known paid amount period) = IsWithin MOST_AMOUNT amount × IsInOrder period
IsFlow (Float paid notional spread parts fixing) =
    IsNotional notional × IsRate spread × IsBetween (pos 0) MOST_PARTS parts
IsFlow (Forward paid notional strike fixing) = IsNotional notional × IsRate strike

-- an index is named where a flow is on one
abbrev pub IsIndexNamed : List FlowTerm → Option ℕ → Type 0
IsIndexNamed flows (Some index) = Unit {0}
IsIndexNamed flows None = All (λ flow. fixed_on flow ≡ None) flows

-- 1 to 1,602 flows, each within its limits, and their index
pub record AreFlowsInRange (terms : FlowTerms) : Type 0 where
  pub count : IsInRange 1 MOST_FLOWS (length terms.flows)
  pub flows : All IsFlow terms.flows
  pub index : IsIndexNamed terms.flows terms.index
