-- Lemmas on flows that are appended to others.
use Rattle.std.proofs.Common.{◌≡◌, false, refl, sym, ap, ◌∙◌, List, [], ◌∷◌, ◌++◌, Option, Some, None, Result, Ok, Err}
use Rattle.std.proofs.lemmas.List.{append_assoc, append-nil}
use Rattle.std.specs.Result.{is_err}
use Rattle.flow_terms.specs.declared.flows.FlowTerm.{FlowTerm}
use Rattle.cash_flow_legs.specs.Legs.{flow_and}
use Rattle.cash_flow_legs.specs.Appended.{Appends, Begins}
use Rattle.cash_flow_legs.specs.declared.faults.LegFault.{LegFault}

-- flows that are there, behind others
abbrev pub behind : List FlowTerm → Option (List FlowTerm) → Option (List FlowTerm)
behind done None = None
behind done (Some flows) = Some (done ++ flows)

pub behind_more : (done : List FlowTerm) (flow : FlowTerm) (flows : Option (List FlowTerm)) → behind done (flow_and (Some flow) flows) ≡ behind (done ++ flow ∷ []) flows
behind_more done flow None = refl
behind_more done flow (Some flows) = ap (λ (fs : List FlowTerm). Some fs) (sym (append_assoc done (flow ∷ []) flows))

pub behind_all : (done : List FlowTerm) → behind done (Some []) ≡ Some done
behind_all done = ap (λ (fs : List FlowTerm). Some fs) (append-nil done)

pub behind_none : (flows : Option (List FlowTerm)) → behind [] flows ≡ flows
behind_none None = refl
behind_none (Some flows) = refl

-- what was begun is appended, or taken back
pub kept : (due : Option (List FlowTerm)) (old new : List FlowTerm) (r : Result (Unit {0}) LegFault) → is_err r ≡ false → Begins due old new r → Appends due old new r
kept due old new (Ok done) is begun = begun
kept due old new (Err fault) is begun = absurd cc
