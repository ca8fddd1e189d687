-- Lemmas on the flows that are still to be paid.
use Rattle.std.proofs.Common.{◌≡◌, ℕ, suc, ◌+◌, ◌<◌, ◌≤◌, arith, refl, sym, ap, ◌∙◌, Bool, true, false, ◌&&◌, ℤ, List, [], ◌∷◌, ◌++◌, length, get_or, drop, drop_of_length-le, Result, Ok, Err, IsErrAnd}
use Rattle.std.proofs.Math.Seq.{drop-cons}
use Rattle.std.proofs.lemmas.List.{append_assoc, append-nil}
use Rattle.std.specs.List.{filter}
use Rattle.desk_terms.specs.declared.cause.Cause.{Cause}
use Rattle.flow_terms.specs.declared.flows.FlowTerm.{FlowTerm}
use Rattle.flow_terms.specs.Flows.{paid_on}
use Rattle.cash_flow_legs.specs.declared.live_flows.Flow.{Flow}
use Rattle.cash_flow_legs.specs.Live.{flow_or_cause, with_amounts, Gives}
use Rattle.cash_flow_legs.specs.declared.faults.FlowFault.{FlowFault}
use Rattle.cash_flow_legs.specs.declared.faults.FlowFault.TheVariants.{Refused}

-- flows that are there, behind others
abbrev pub joined : List Flow → Result (List Flow) Cause → Result (List Flow) Cause
joined done (Ok flows) = Ok (done ++ flows)
joined done (Err cause) = Err cause

pub joined_none : (flows : Result (List Flow) Cause) → flows ≡ joined [] flows
joined_none (Ok flows) = refl
joined_none (Err cause) = refl

joined_more : (done : List Flow) (paid amount : ℤ) (rest : Result (List Flow) Cause) → joined done (flow_or_cause paid (Ok amount) rest) ≡ joined (done ++ record { paid = paid; amount = amount } ∷ []) rest
joined_more done paid amount (Ok flows) = ap (λ (fs : List Flow). Ok fs) (sym (append_assoc done (record { paid = paid; amount = amount } ∷ []) flows))
joined_more done paid amount (Err cause) = refl

-- the flows from a place on
here : (terms : List FlowTerm) (at : ℕ) (flow : FlowTerm) → at < length terms → flow ≡ get_or terms at flow → drop at terms ≡ flow ∷ drop (at + 1) terms
here terms at flow h is =
    let next : suc at ≡ at + 1 = omega arith in
    rw (← next) (drop-cons terms at flow h ∙ ap (λ (f : FlowTerm). f ∷ drop (suc at) terms) (sym is))

-- a flow that is not live is passed over
pub skipped : (amount : FlowTerm → Result ℤ Cause) (live : FlowTerm → Bool) (terms : List FlowTerm) (at : ℕ) (flow : FlowTerm) → at < length terms → flow ≡ get_or terms at flow → live flow ≡ false
    → with_amounts amount (filter live (drop at terms)) ≡ with_amounts amount (filter live (drop (at + 1) terms))
skipped amount live terms at flow h is dead = rw (here terms at flow h is, dead) refl

-- a live one stands in front
taken : (amount : FlowTerm → Result ℤ Cause) (live : FlowTerm → Bool) (terms : List FlowTerm) (at : ℕ) (flow : FlowTerm) → at < length terms → flow ≡ get_or terms at flow → live flow ≡ true
    → with_amounts amount (filter live (drop at terms)) ≡ flow_or_cause (paid_on flow) (amount flow) (with_amounts amount (filter live (drop (at + 1) terms)))
unfolding with_amounts
taken amount live terms at flow h is alive = rw (here terms at flow h is, alive) refl

-- with its amount
pub found : (amount : FlowTerm → Result ℤ Cause) (live : FlowTerm → Bool) (terms : List FlowTerm) (at : ℕ) (flow : FlowTerm) (done : List Flow) (size : ℤ) → at < length terms → flow ≡ get_or terms at flow → live flow ≡ true → amount flow ≡ Ok size
    → joined done (with_amounts amount (filter live (drop at terms))) ≡ joined (done ++ record { paid = paid_on flow; amount = size } ∷ []) (with_amounts amount (filter live (drop (at + 1) terms)))
found amount live terms at flow done size h is alive there =
    ap (joined done) (taken amount live terms at flow h is alive ∙ ap (λ (a : Result ℤ Cause). flow_or_cause (paid_on flow) a (with_amounts amount (filter live (drop (at + 1) terms)))) there)
    ∙ joined_more done (paid_on flow) size (with_amounts amount (filter live (drop (at + 1) terms)))

-- with the cause that it is refused by
pub refused : (amount : FlowTerm → Result ℤ Cause) (live : FlowTerm → Bool) (terms : List FlowTerm) (at : ℕ) (flow : FlowTerm) (done : List Flow) (cause : Cause) → at < length terms → flow ≡ get_or terms at flow → live flow ≡ true → amount flow ≡ Err cause
    → joined done (with_amounts amount (filter live (drop at terms))) ≡ Err cause
refused amount live terms at flow done cause h is alive there =
    ap (joined done) (taken amount live terms at flow h is alive ∙ ap (λ (a : Result ℤ Cause). flow_or_cause (paid_on flow) a (with_amounts amount (filter live (drop (at + 1) terms)))) there)

-- behind the last flow there is none
pub finished : (amount : FlowTerm → Result ℤ Cause) (live : FlowTerm → Bool) (terms : List FlowTerm) (at : ℕ) (done : List Flow) → length terms ≤ at
    → joined done (with_amounts amount (filter live (drop at terms))) ≡ Ok done
unfolding with_amounts
finished amount live terms at done h = rw (drop_of_length-le terms h) (ap (λ (fs : List Flow). Ok fs) (append-nil done))

both : (a b : Bool) → a ≡ true → b ≡ true → (a && b) ≡ true
both a b ia ib = rw (ia, ib) refl

first : (a b : Bool) → (a && b) ≡ true → a ≡ true
first true b is = refl
first false b is = is

-- what is refused by a cause gives it
pub gives_refused : (due : Result (List Flow) Cause) (r : Result (List Flow) FlowFault) (cause : Cause) → due ≡ Err cause → IsErrAnd r (λ (e : FlowFault). e ≡ Refused cause) → Gives due r
gives_refused due (Ok flows) cause is fault = absurd fault
gives_refused due (Err fault) cause is by = rw by is
