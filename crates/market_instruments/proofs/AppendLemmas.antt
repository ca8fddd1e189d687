-- What is appended, as a market has it.
use Rattle.std.proofs.Common.{◌≡◌, ◌∙◌, sym, ap, subst, ℕ, List, [], Option, None, Some, Result, Ok, Err}
use Rattle.std.specs.Prelude.{IfSome, IfNone}
use Rattle.std.proofs.lemmas.List.Elements.{All-nil, All-append}
use Rattle.flow_terms.specs.declared.flows.FlowTerm.{FlowTerm}
use Rattle.flow_terms.specs.Ranges.{IsFlow}
use Rattle.cash_flow_legs.specs.Appended.{Appends, AddsInRange, one_flow}
use Rattle.cash_flow_legs.specs.declared.faults.LegFault.{LegFault}
use Rattle.cash_flow_legs.specs.declared.faults.LegFault.TheVariants.{DateRange, NoMemory}
use Rattle.market_tables.specs.declared.fault.MarketKind.TheVariants as fault
use Rattle.market_tables.specs.Refusals.{Refuses}
use Rattle.market_instruments.specs.Appended.{ranged, behind, AreWithin, StayWithin}
use Rattle.market_instruments.proofs.KnownLemmas.{IsKnown, AreKnown}

pub landed : (due : Option (List FlowTerm)) (old new : List FlowTerm) → Appends due old new (Ok tt) → behind old due ≡ Ok new
landed due old new (flows, is, more) = ap (behind old) is ∙ ap Ok (sym more)

pub out_of_range : (due : Option (List FlowTerm)) (old new : List FlowTerm) → Appends due old new (Err DateRange) → behind old due ≡ Err fault.Range
out_of_range due old new (is, same) = ap (behind old) is

-- a flow without its days is refused whatever the memory
pub refused : (flow : Option FlowTerm) (old : List FlowTerm) (r : Result (Unit {0}) LegFault)
    → IfNone flow (r ≡ Err DateRange) → Refuses (ranged r) (behind old (one_flow flow))
refused None old r is = ap ranged is
refused (Some flow) old r is = tt

pub refused_leg : (due : Option (List FlowTerm)) (old : List FlowTerm) (r : Result (Unit {0}) LegFault)
    → IfNone due (r ≡ Err DateRange) → Refuses (ranged r) (behind old due)
refused_leg None old r is = ap ranged is
refused_leg (Some flows) old r is = tt

-- with an index named, flows on it may come
pub stay_on : {old new : List FlowTerm} → AddsInRange old new → (object : ℕ) → StayWithin (Some object) old new
stay_on adds object were = record { limits = adds were.limits; named = tt }

known_kept : (due : Option (List FlowTerm)) (old new : List FlowTerm) (r : Result (Unit {0}) LegFault)
    → IfSome due AreKnown → Appends due old new r → AreKnown old → AreKnown new
known_kept due old new (Ok done) known (flows, is, more) were =
    let here : AreKnown flows = subst (λ (found : Option (List FlowTerm)). IfSome found AreKnown) is known in
    subst AreKnown (sym more) (All-append IsKnown old flows were here)
known_kept due old new (Err DateRange) known (is, same) were = subst AreKnown (sym same) were
known_kept due old new (Err NoMemory) known same were = subst AreKnown (sym same) were

-- known amounts may come with any index or none
pub stay_known : (due : Option (List FlowTerm)) (old new : List FlowTerm) (r : Result (Unit {0}) LegFault)
    → IfSome due AreKnown → Appends due old new r → AddsInRange old new → (index : Option ℕ) → StayWithin index old new
stay_known due old new r known appends adds None were =
    record { limits = adds were.limits; named = known_kept due old new r known appends were.named }
stay_known due old new r known appends adds (Some object) were = record { limits = adds were.limits; named = tt }

-- no flows, with any index or none
pub none_within : (index : Option ℕ) → AreWithin index []
none_within None = record { limits = All-nil IsFlow; named = All-nil IsKnown }
none_within (Some object) = record { limits = All-nil IsFlow; named = tt }
