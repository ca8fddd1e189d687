-- The sum over flows, from a place on.
use Rattle.std.proofs.Common.{◌≡◌, ℕ, suc, ◌+◌, ◌<◌, ◌≤◌, arith, refl, sym, ap, ◌∙◌, Bool, true, false, ℤ, pos, ◌+ℤ◌, List, [], ◌∷◌, ◌++◌, length, get_or, drop, drop_of_length-le, Result, Ok, Err, IsErrAnd}
use Rattle.std.proofs.Math.Seq.{drop-cons}
use Rattle.std.proofs.Math.IntN.{+ℤ_assoc}
use Rattle.std.proofs.lemmas.Int.{ints}
use Rattle.std.specs.List.{filter}
use Rattle.desk_terms.specs.declared.cause.Cause.{Cause}
use Rattle.flow_terms.specs.declared.flows.FlowTerm.{FlowTerm}
use Rattle.rate_indexes.specs.Forecast.{on_value}
use Rattle.discount_engines.specs.Worth.{added, worth, where_live}

nothing_before : (z : ℤ) → pos 0 +ℤ z ≡ z
nothing_before z = omega (arith, ints)

pub added_none : (r : Result ℤ Cause) → added (pos 0) r ≡ r
added_none (Ok units) = ap (λ (z : ℤ). Ok z) (nothing_before units)
added_none (Err cause) = refl

pub added_more : (a b : ℤ) (r : Result ℤ Cause) → added (a +ℤ b) r ≡ added a (added b r)
added_more a b (Ok units) = ap (λ (z : ℤ). Ok z) (+ℤ_assoc a b units)
added_more a b (Err cause) = refl

-- the sum of both, where the first is there
abbrev with_rest : Result ℤ Cause → Result ℤ Cause → Result ℤ Cause
with_rest rest first = on_value (λ units. added units rest) first

both : (first middle rest : Result ℤ Cause) → with_rest (with_rest rest middle) first ≡ with_rest rest (with_rest middle first)
both (Err cause) middle rest = refl
both (Ok a) (Err cause) rest = refl
both (Ok a) (Ok b) rest = sym (added_more a b rest)

pub worth_of_both : (part : FlowTerm → Result ℤ Cause) (front back : List FlowTerm) → worth part (front ++ back) ≡ on_value (λ units. added units (worth part back)) (worth part front)
unfolding worth
worth_of_both part [] back = sym (added_none (worth part back))
worth_of_both part (flow ∷ front) back =
    ap (λ (r : Result ℤ Cause). with_rest r (part flow)) (worth_of_both part front back) ∙ both (part flow) (worth part front) (worth part back)

pub first_cause : (part : FlowTerm → Result ℤ Cause) (front back : List FlowTerm) (flow : FlowTerm) (units : ℤ) (cause : Cause) → worth part front ≡ Ok units → part flow ≡ Err cause → worth part (front ++ flow ∷ back) ≡ Err cause
unfolding worth
first_cause part front back flow units cause is by = worth_of_both part front (flow ∷ back) ∙ rw (is, by) refl

-- the flows that are not live add nothing
live_first : (live : FlowTerm → Bool) (part : FlowTerm → Result ℤ Cause) (flow : FlowTerm) (flows : List FlowTerm) (b : Bool) → live flow ≡ b
    → worth (where_live live part) flows ≡ worth part (filter live flows) → worth (where_live live part) (flow ∷ flows) ≡ worth part (filter live (flow ∷ flows))
unfolding worth
live_first live part flow flows true is rest = rw is (ap (λ (r : Result ℤ Cause). on_value (λ units. added units r) (part flow)) rest)
live_first live part flow flows false is rest = rw is (added_none (worth (where_live live part) flows) ∙ rest)

pub live_alone : (live : FlowTerm → Bool) (part : FlowTerm → Result ℤ Cause) (flows : List FlowTerm) → worth (where_live live part) flows ≡ worth part (filter live flows)
unfolding worth
live_alone live part [] = refl
live_alone live part (flow ∷ flows) = live_first live part flow flows (live flow) refl (live_alone live part flows)

-- the flows from a place on
here : (flows : List FlowTerm) (at : ℕ) (flow : FlowTerm) → at < length flows → flow ≡ get_or flows at flow → drop at flows ≡ flow ∷ drop (at + 1) flows
here flows at flow h is =
    let next : suc at ≡ at + 1 = omega arith in
    rw (← next) (drop-cons flows at flow h ∙ ap (λ (f : FlowTerm). f ∷ drop (suc at) flows) (sym is))

step : (part : FlowTerm → Result ℤ Cause) (flows : List FlowTerm) (at : ℕ) (flow : FlowTerm) → at < length flows → flow ≡ get_or flows at flow
    → worth part (drop at flows) ≡ on_value (λ units. added units (worth part (drop (at + 1) flows))) (part flow)
unfolding worth
step part flows at flow h is = rw (here flows at flow h is) refl

-- a flow that is worth something is added to those before it
pub one_more : (part : FlowTerm → Result ℤ Cause) (flows : List FlowTerm) (at : ℕ) (flow : FlowTerm) (sum units : ℤ) → at < length flows → flow ≡ get_or flows at flow → part flow ≡ Ok units
    → added sum (worth part (drop at flows)) ≡ added (sum +ℤ units) (worth part (drop (at + 1) flows))
one_more part flows at flow sum units h is there =
    ap (added sum) (step part flows at flow h is ∙ ap (on_value (λ (u : ℤ). added u (worth part (drop (at + 1) flows)))) there)
    ∙ sym (added_more sum units (worth part (drop (at + 1) flows)))

-- a cause ends the sum
pub refused : (part : FlowTerm → Result ℤ Cause) (flows : List FlowTerm) (at : ℕ) (flow : FlowTerm) (sum : ℤ) (cause : Cause) → at < length flows → flow ≡ get_or flows at flow → part flow ≡ Err cause
    → added sum (worth part (drop at flows)) ≡ Err cause
refused part flows at flow sum cause h is by =
    ap (added sum) (step part flows at flow h is ∙ ap (on_value (λ (u : ℤ). added u (worth part (drop (at + 1) flows)))) by)

nothing_behind : (z : ℤ) → z +ℤ pos 0 ≡ z
nothing_behind z = omega (arith, ints)

-- behind the last flow nothing is added
pub finished : (part : FlowTerm → Result ℤ Cause) (flows : List FlowTerm) (at : ℕ) (sum : ℤ) → length flows ≤ at → added sum (worth part (drop at flows)) ≡ Ok sum
unfolding worth
finished part flows at sum h = rw (drop_of_length-le flows h) (ap (λ (z : ℤ). Ok z) (nothing_behind sum))

-- what is refused by the cause that is due
pub is_refused : (due r : Result ℤ Cause) (cause : Cause) → due ≡ Err cause → IsErrAnd r (λ (e : Cause). e ≡ cause) → r ≡ due
is_refused due (Ok units) cause is by = absurd by
is_refused due (Err e) cause is by = ap (λ (c : Cause). Err c) by ∙ sym is
