-- What is above no object that observes the evaluation date is not told by it.
use Rattle.std.proofs.Common.{◌≡◌, ◌≢◌, ◌⊎◌, inl, inr, ℕ, Bool, true, false, List, [], ◌∷◌, Option, Some, None, ℤ, refl, sym, ◌∙◌, ap, subst}
use Rattle.std.specs.Prelude.{◌==◌, if◌then◌else◌}
use Rattle.std.specs.Ordering.{int_eq}
use Rattle.std.proofs.lemmas.Bool.{eqb-true}
use Rattle.walks.specs.Walk.{Among, Below}
use Rattle.walks.specs.Walk.Below.{next, beyond}
use Rattle.curve_terms.specs.declared.terms.CurveTerms.{CurveTerms}
use Rattle.curve_terms.specs.declared.terms.Helper.{Helper}
use Rattle.desk_terms.specs.declared.kind.Wanted as wanted
use Rattle.desk_terms.specs.declared.terms.Terms.{Terms}
use Rattle.desk_terms.specs.declared.terms.Terms.TheVariants.{Quote, Derived, Handle, Curve, Implied, Index, Engine, Stock, Composite, Flows}
use Rattle.desk_terms.specs.declared.terms.HandleKind as handle
use Rattle.desk_terms.specs.Terms.{inputs_of, helper_references, moves, observes_today}
use Rattle.desk_model.specs.declared.slot.Slot.{Slot}
use Rattle.desk_model.specs.declared.slot.Slot.TheVariants.{Free, Today, Watcher, Live}
use Rattle.desk_model.specs.Market.{Market, slot_at, terms_in, terms_at, kind_in, kind_at, is_lazy, role_of, each_once, named, edges_of, edges}
use Rattle.desk_model.specs.State.{State, kept_at}
use Rattle.desk_model.specs.Told.{forwards, told, unsettled}
use Rattle.desk_model.specs.Links.{IsLinked, IsWhole, serves_as, Serve, AreOfKind, IsKinded}
use Rattle.desk_model.specs.Effect.{notified_as, with_today, notified, today_set}
use Rattle.desk_model.specs.FixedCurves.{FixedCurvesStay, FlowsAreTold}
use Rattle.desk_model.proofs.Edges.{among_once, today_edge}
use Rattle.desk_model.proofs.Stores.{told_kept}
use Rattle.desk_model.proofs.Watchers.{lazy_plain, whole_registers}
use Rattle.desk_model.proofs.Tells.{below_told, near_told, sourced_there}

-- what gives a rate, and a curve with a day of its own: neither observes the evaluation date, nor does what it observes
abbrev IsApart : Option Terms → Type 0
IsApart None = ⊥
IsApart (Some (Quote value)) = Unit {0}
IsApart (Some (Derived minus first second)) = Unit {0}
IsApart (Some (Handle handle.TheVariants.Quote target)) = Unit {0}
IsApart (Some (Handle handle.TheVariants.Curve target)) = ⊥
IsApart (Some (Curve terms)) = moves terms.start ≡ false
IsApart (Some (Implied curve reference)) = ⊥
IsApart (Some (Index terms fixings)) = ⊥
IsApart (Some (Engine curve)) = ⊥
IsApart (Some (Stock quote)) = ⊥
IsApart (Some (Composite parts)) = ⊥
IsApart (Some (Flows flows engine)) = ⊥

unobserving : (t : Terms) → IsApart (Some t) → observes_today t ≡ false
unobserving (Quote value) apart = refl
unobserving (Derived minus first second) apart = refl
unobserving (Handle kind target) apart = refl
unobserving (Curve terms) apart = apart
unobserving (Implied curve reference) apart = absurd apart
unobserving (Index terms fixings) apart = absurd apart
unobserving (Engine curve) apart = absurd apart
unobserving (Stock quote) apart = absurd apart
unobserving (Composite parts) apart = absurd apart
unobserving (Flows flows engine) apart = absurd apart

-- its edges are its inputs
edge_is_input : (t : Terms) (x : ℕ) → observes_today t ≡ false → Among x (edges_of (Some t)) → Among x (named (inputs_of t))
edge_is_input t x is among = by_day (observes_today t) is among
  where
    by_day : (b : Bool) → b ≡ false → Among x (each_once (if b then 0 ∷ named (inputs_of t) else named (inputs_of t))) → Among x (named (inputs_of t))
    by_day true is among = absurd (cc)
    by_day false is among = among_once x (named (inputs_of t)) among

-- what may stand for a quote gives a rate
input_apart_in : (slot : Slot) → serves_as (kind_in slot) wanted.TheVariants.QuoteInput ≡ true → IsApart (terms_in slot)
input_apart_in Free is = absurd (cc)
input_apart_in Today is = absurd (cc)
input_apart_in Watcher is = absurd (cc)
input_apart_in (Live (Quote value)) is = tt
input_apart_in (Live (Derived minus first second)) is = tt
input_apart_in (Live (Handle handle.TheVariants.Quote target)) is = tt
input_apart_in (Live (Handle handle.TheVariants.Curve target)) is = absurd (cc)
input_apart_in (Live (Curve terms)) is = absurd (cc)
input_apart_in (Live (Implied curve reference)) is = absurd (cc)
input_apart_in (Live (Index terms fixings)) is = absurd (cc)
input_apart_in (Live (Engine curve)) is = absurd (cc)
input_apart_in (Live (Stock quote)) is = absurd (cc)
input_apart_in (Live (Composite parts)) is = absurd (cc)
input_apart_in (Live (Flows flows engine)) is = absurd (cc)

target_apart_in : (slot : Slot) → serves_as (kind_in slot) wanted.TheVariants.QuoteTarget ≡ true → IsApart (terms_in slot)
target_apart_in Free is = absurd (cc)
target_apart_in Today is = absurd (cc)
target_apart_in Watcher is = absurd (cc)
target_apart_in (Live (Quote value)) is = tt
target_apart_in (Live (Derived minus first second)) is = tt
target_apart_in (Live (Handle handle.TheVariants.Quote target)) is = absurd (cc)
target_apart_in (Live (Handle handle.TheVariants.Curve target)) is = absurd (cc)
target_apart_in (Live (Curve terms)) is = absurd (cc)
target_apart_in (Live (Implied curve reference)) is = absurd (cc)
target_apart_in (Live (Index terms fixings)) is = absurd (cc)
target_apart_in (Live (Engine curve)) is = absurd (cc)
target_apart_in (Live (Stock quote)) is = absurd (cc)
target_apart_in (Live (Composite parts)) is = absurd (cc)
target_apart_in (Live (Flows flows engine)) is = absurd (cc)

module _ (m : Market) where
  at_input : (y x : ℕ) → serves_as (kind_at m y) wanted.TheVariants.QuoteInput ≡ true → x ≡ y → IsApart (terms_at m x)
  at_input y x serves is = subst (λ (z : ℕ). IsApart (terms_at m z)) (sym is) (input_apart_in (slot_at m y) serves)

  at_target : (y x : ℕ) → serves_as (kind_at m y) wanted.TheVariants.QuoteTarget ≡ true → x ≡ y → IsApart (terms_at m x)
  at_target y x serves is = subst (λ (z : ℕ). IsApart (terms_at m z)) (sym is) (target_apart_in (slot_at m y) serves)

  helpers_apart : (helpers : List Helper) → Serve m (helper_references helpers) → (x : ℕ) → Among x (named (helper_references helpers)) → IsApart (terms_at m x)
  helpers_apart [] serve x among = absurd among
  helpers_apart (helper ∷ helpers) serve x (inl is) = at_input helper.quote x serve.0 is
  helpers_apart (helper ∷ helpers) serve x (inr among) = helpers_apart helpers serve.1 x among

  inputs_apart : (t : Terms) → IsApart (Some t) → Serve m (inputs_of t) → (x : ℕ) → Among x (named (inputs_of t)) → IsApart (terms_at m x)
  inputs_apart (Quote value) apart serve x among = absurd among
  inputs_apart (Derived minus first second) apart serve x (inl is) = at_input first x serve.0 is
  inputs_apart (Derived minus first second) apart serve x (inr (inl is)) = at_input second x serve.1.0 is
  inputs_apart (Derived minus first second) apart serve x (inr (inr among)) = absurd among
  inputs_apart (Handle handle.TheVariants.Quote None) apart serve x among = absurd among
  inputs_apart (Handle handle.TheVariants.Quote (Some target)) apart serve x (inl is) = at_target target x serve.0 is
  inputs_apart (Handle handle.TheVariants.Quote (Some target)) apart serve x (inr among) = absurd among
  inputs_apart (Handle handle.TheVariants.Curve target) apart serve x among = absurd apart
  inputs_apart (Curve terms) apart serve x among = helpers_apart terms.helpers serve x among
  inputs_apart (Implied curve reference) apart serve x among = absurd apart
  inputs_apart (Index terms fixings) apart serve x among = absurd apart
  inputs_apart (Engine curve) apart serve x among = absurd apart
  inputs_apart (Stock quote) apart serve x among = absurd apart
  inputs_apart (Composite parts) apart serve x among = absurd apart
  inputs_apart (Flows flows engine) apart serve x among = absurd apart

  edges_apart : (t : Option Terms) → IsApart t → AreOfKind m t → (x : ℕ) → Among x (edges_of t) → IsApart (terms_at m x)
  edges_apart None apart kind x among = absurd apart
  edges_apart (Some t) apart kind x among = inputs_apart t apart kind x (edge_is_input t x (unobserving t apart) among)

-- `today` has no terms
today_bare : (slot : Slot) → slot ≡ Today → IsApart (terms_in slot) → ⊥
today_bare slot is apart = subst (λ (s : Slot). IsApart (terms_in s)) is apart

-- no notice from `today` comes there
not_below : (s : State) → slot_at s.market 0 ≡ Today → IsKinded s.market → (o : ℕ) → IsApart (terms_at s.market o)
    → Below (edges s.market) (λ y. y == 0) (forwards s) o → ⊥
not_below s today kinds o apart (next {x = x} among here) =
    let there = edges_apart s.market (terms_at s.market o) apart (kinds o) x among in
    today_bare (slot_at s.market 0) today (subst (λ (z : ℕ). IsApart (terms_at s.market z)) (eqb-true x 0 here) there)
not_below s today kinds o apart (beyond {x = x} among passes below) =
    not_below s today kinds x (edges_apart s.market (terms_at s.market o) apart (kinds o) x among) below

never_true : (b : Bool) → (b ≡ true → ⊥) → b ≡ false
never_true true never = absurd (never refl)
never_true false never = refl

-- whatever the day
linked_then : (day : ℤ) (s : State) → IsLinked s.market → IsLinked (with_today day s).market
linked_then day s links = record { within = links.within; observed = links.observed; acyclic = links.acyclic }

not_told : (s : State) → IsWhole s → IsKinded s.market → (o : ℕ) (curve : CurveTerms) (day : ℤ) → terms_at s.market o ≡ Some (Curve curve) → moves curve.start ≡ false
    → told (with_today day s) (λ y. y == 0) o ≡ false
not_told s whole kinds o curve day is fixed =
    let plain = lazy_plain s.market o (ap (λ (t : Option Terms). is_lazy (role_of t)) is) in
    let apart = subst IsApart (sym is) fixed in
    never_true _ (λ true_then. not_below (with_today day s) whole.today kinds o apart
    (below_told (with_today day s) (linked_then day s whole.links) (whole_registers s whole) (λ y. y == 0) o plain true_then))

not_today : (s : State) → IsWhole s → (o : ℕ) (curve : CurveTerms) → terms_at s.market o ≡ Some (Curve curve) → moves curve.start ≡ false → o ≢ 0
not_today s whole o curve is fixed = λ (same : o ≡ 0).
    let apart = subst IsApart (sym is) fixed in
    today_bare (slot_at s.market 0) whole.today (subst (λ (z : ℕ). IsApart (terms_at s.market z)) same apart)

pub fixed_curves_stay : FixedCurvesStay
unfolding today_set notified
fixed_curves_stay s whole kinds o curve day is fixed = by_day (int_eq s.market.today day)
  where
    by_deferring : (b : Bool) → kept_at (notified_as b 0 (with_today day s)) o ≡ kept_at s o
    by_deferring true = sourced_there 0 (with_today day s) o (not_today s whole o curve is fixed)
    by_deferring false = told_kept (λ y. y == 0) (with_today day s) o ∙ ap (λ (b : Bool). unsettled b (kept_at s o)) (not_told s whole kinds o curve day is fixed)

    by_day : (b : Bool) → kept_at (if b then s else notified_as s.deferring 0 (with_today day s)) o ≡ kept_at s o
    by_day true = refl
    by_day false = by_deferring s.deferring

pub flows_are_told : FlowsAreTold
flows_are_told s whole o flows engine is =
    let plain = lazy_plain s.market o (ap (λ (t : Option Terms). is_lazy (role_of t)) is) in
    let among = subst (λ (t : Option Terms). Among 0 (edges_of t)) (sym is) (today_edge (Flows flows engine) refl) in
    near_told s whole.links (whole_registers s whole) (λ y. y == 0) o plain (next among refl)
