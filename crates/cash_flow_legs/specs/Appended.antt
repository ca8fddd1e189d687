-- What a call appends to a list of flows.
use Rattle.std.specs.Prelude.{◌≡◌, List, [], ◌∷◌, ◌++◌, Option, Some, None, Result, Ok, Err}
use Rattle.std.specs.List.{All}
use Rattle.flow_terms.specs.declared.flows.FlowTerm.{FlowTerm}
use Rattle.flow_terms.specs.Ranges.{IsFlow}
use Rattle.cash_flow_legs.specs.declared.faults.LegFault.{LegFault}
use Rattle.cash_flow_legs.specs.declared.faults.LegFault.TheVariants.{DateRange, NoMemory}

-- the flows are appended; or they are not there, or memory is wanting, and the list is as it was
abbrev pub Appends : Option (List FlowTerm) → List FlowTerm → List FlowTerm → Result (Unit {0}) LegFault → Type 0
Appends due old new (Ok done) = (flows : List FlowTerm) × (due ≡ Some flows) × (new ≡ old ++ flows)
Appends due old new (Err DateRange) = (due ≡ None) × (new ≡ old)
Appends due old new (Err NoMemory) = new ≡ old

-- the same, where some flows may be left behind the old ones
abbrev pub Begins : Option (List FlowTerm) → List FlowTerm → List FlowTerm → Result (Unit {0}) LegFault → Type 0
Begins due old new (Ok done) = (flows : List FlowTerm) × (due ≡ Some flows) × (new ≡ old ++ flows)
Begins due old new (Err DateRange) = (due ≡ None) × ((flows : List FlowTerm) × (new ≡ old ++ flows))
Begins due old new (Err NoMemory) = (flows : List FlowTerm) × (new ≡ old ++ flows)

-- flows in range stay so
abbrev pub AddsInRange : List FlowTerm → List FlowTerm → Type 0
AddsInRange old new = All IsFlow old → All IsFlow new

-- one flow, where there is one
abbrev pub one_flow : Option FlowTerm → Option (List FlowTerm)
one_flow None = None
one_flow (Some flow) = Some (flow ∷ [])
