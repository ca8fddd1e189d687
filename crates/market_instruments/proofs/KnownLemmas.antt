-- Flows on no index.
use Rattle.std.proofs.Common.{◌≡◌, refl, ℕ, ℤ, Bool, List, [], ◌∷◌, Option, None, Some}
use Rattle.std.specs.Prelude.{IfSome}
use Rattle.std.specs.List.{All}
use Rattle.std.proofs.lemmas.List.Elements.{All-nil, All-cons}
use Rattle.year_parts.specs.declared.counters.Counter.{Counter}
use Rattle.flow_terms.specs.declared.flows.FlowTerm.{FlowTerm}
use Rattle.flow_terms.specs.Flows.{fixed_on}
use Rattle.cash_flow_legs.specs.Appended.{one_flow}
use Rattle.cash_flow_legs.specs.Legs.{flow_and, periods_from, each_period, known_on, fixed_flow}
use Rattle.cash_flow_legs.specs.Singles.{redemption_flow}

abbrev pub IsKnown : FlowTerm → Type 0
IsKnown flow = fixed_on flow ≡ None

abbrev pub AreKnown : List FlowTerm → Type 0
AreKnown flows = All IsKnown flows

both_known : (flow : Option FlowTerm) (flows : Option (List FlowTerm)) → IfSome flow IsKnown → IfSome flows AreKnown → IfSome (flow_and flow flows) AreKnown
both_known None flows h hs = tt
both_known (Some flow) None h hs = tt
both_known (Some flow) (Some flows) h hs = All-cons IsKnown flow flows h hs

module _ (flow : ℤ → ℤ → Option FlowTerm) (known : (from to : ℤ) → IfSome (flow from to) IsKnown) where
  periods_known : (from : ℤ) (days : List ℤ) → IfSome (periods_from flow from days) AreKnown
  unfolding periods_from
  periods_known from [] = All-nil IsKnown
  periods_known from (to ∷ days) = both_known (flow from to) (periods_from flow to days) (known from to) (periods_known to days)

  pub each_known : (days : List ℤ) → IfSome (each_period flow days) AreKnown
  each_known [] = All-nil IsKnown
  each_known (day ∷ days) = periods_known day days

known_there : (paid : Option ℤ) (amount : ℤ) (period : Option (ℤ × ℤ)) → IfSome (known_on paid amount period) IsKnown
known_there None amount period = tt
known_there (Some paid) amount period = refl

pub fixed_known : (business : ℤ → Bool) (lag : ℕ) (notional rate : ℤ) (counter : Counter) (from to : ℤ) → IfSome (fixed_flow business lag notional rate counter from to) IsKnown
fixed_known business lag notional rate counter from to = known_there _ _ _

one_known : (flow : Option FlowTerm) → IfSome flow IsKnown → IfSome (one_flow flow) AreKnown
one_known None h = tt
one_known (Some flow) h = All-cons IsKnown flow [] h (All-nil IsKnown)

pub redemption_known : (business : ℤ → Bool) (lag : ℕ) (end notional : ℤ) → IfSome (one_flow (redemption_flow business lag end notional)) AreKnown
redemption_known business lag end notional = one_known _ (known_there _ _ _)
