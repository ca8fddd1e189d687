-- What is known of an object by the terms that are told of it.
use Rattle.std.proofs.Common.{◌≡◌, inl, inr, ℕ, ℤ, Bool, true, false, List, [], ◌∷◌, ◌++◌, Option, Some, None, refl}
use Rattle.std.proofs.Common.{sym, ◌∙◌, ap}
use Rattle.std.specs.Prelude.{◌&&◌, ◌||◌, is_some, if◌then◌else◌}
use Rattle.std.specs.List.{All}
use Rattle.std.proofs.lemmas.List.Elements.{All-nil, All-cons}
use Rattle.walks.specs.Walk.{Among}
use Rattle.curve_terms.specs.declared.terms.CurveTerms.{CurveTerms}
use Rattle.desk_terms.specs.declared.terms.Part.{Part}
use Rattle.desk_terms.specs.declared.terms.Terms.{Terms}
use Rattle.desk_terms.specs.declared.terms.Terms.TheVariants.{Quote, Derived, Handle, Curve, Implied, Index, Engine}
use Rattle.desk_terms.specs.declared.terms.Terms.TheVariants.{Stock, Composite, Flows}
use Rattle.desk_terms.specs.declared.kind.Wanted.TheVariants as wanted
use Rattle.desk_terms.specs.Parts.{IsWeight, AreEachInRange}
use Rattle.desk_terms.specs.Terms.{moves, optional_reference, helper_references, inputs_of}
use Rattle.flow_terms.specs.declared.flows.FlowTerms.{FlowTerms}
use Rattle.desk_model.specs.Market.{role_of, is_lazy, is_forwarding, named, each_once, edges_of}
use Rattle.desk_model.specs.State.{State, kept_at, is_frozen, is_late, least_source}
use Rattle.desk_model.specs.Links.{IsWhole, is_lazy_at}
use Rattle.desk_model.proofs.Edges.{once_among}
use Rattle.desk_model.proofs.Paths.{late_least}
use Rattle.why_model.specs.Listing.{shows_last}
use Rattle.object_store.specs.Objects.{quoted, bare}

-- ---- the terms that are told

quote_told : (value : Option ℤ) (terms : Terms) → quoted terms ≡ None → Some terms ≡ Some (Quote value) → ⊥
quote_told value (Quote held) own is = cc
quote_told value (Derived minus first second) own is = cc
quote_told value (Handle kind target) own is = cc
quote_told value (Curve terms) own is = cc
quote_told value (Implied curve reference) own is = cc
quote_told value (Index terms fixings) own is = cc
quote_told value (Engine curve) own is = cc
quote_told value (Stock quote) own is = cc
quote_told value (Composite parts) own is = cc
quote_told value (Flows flows engine) own is = cc

-- terms without a value of their own are told as they are
pub told : (found : Option Terms) (terms : Terms) → quoted terms ≡ None → Some terms ≡ bare found → found ≡ Some terms
told None terms own is = absurd (cc)
told (Some (Quote value)) terms own is = absurd (quote_told None terms own is)
told (Some (Derived minus first second)) terms own is = sym is
told (Some (Handle kind target)) terms own is = sym is
told (Some (Curve held)) terms own is = sym is
told (Some (Implied curve reference)) terms own is = sym is
told (Some (Index held fixings)) terms own is = sym is
told (Some (Engine curve)) terms own is = sym is
told (Some (Stock quote)) terms own is = sym is
told (Some (Composite parts)) terms own is = sym is
told (Some (Flows flows engine)) terms own is = sym is

pub forwarder_told : (found : Option Terms) → is_forwarding (role_of found) ≡ true → bare found ≡ found
forwarder_told None is = refl
forwarder_told (Some (Quote value)) is = absurd (cc)
forwarder_told (Some (Derived minus first second)) is = refl
forwarder_told (Some (Handle kind target)) is = refl
forwarder_told (Some (Curve terms)) is = refl
forwarder_told (Some (Implied curve reference)) is = refl
forwarder_told (Some (Index terms fixings)) is = refl
forwarder_told (Some (Engine curve)) is = refl
forwarder_told (Some (Stock quote)) is = refl
forwarder_told (Some (Composite parts)) is = refl
forwarder_told (Some (Flows flows engine)) is = refl

pub lazy_told : (found : Option Terms) → is_lazy (role_of found) ≡ true → bare found ≡ found
lazy_told None is = refl
lazy_told (Some (Quote value)) is = absurd (cc)
lazy_told (Some (Derived minus first second)) is = refl
lazy_told (Some (Handle kind target)) is = refl
lazy_told (Some (Curve terms)) is = refl
lazy_told (Some (Implied curve reference)) is = refl
lazy_told (Some (Index terms fixings)) is = refl
lazy_told (Some (Engine curve)) is = refl
lazy_told (Some (Stock quote)) is = refl
lazy_told (Some (Composite parts)) is = refl
lazy_told (Some (Flows flows engine)) is = refl

pub none_told : (found : Option Terms) → None ≡ bare found → found ≡ None
none_told None is = refl
none_told (Some terms) is = absurd (cc)

-- ---- edges

pub engine_among : (flows : FlowTerms) (engine : Option ℕ) (e : ℕ) → engine ≡ Some e
    → Among e (edges_of (Some (Flows flows engine)))
engine_among flows None e is = absurd (cc)
engine_among flows (Some held) e is =
    let same : e ≡ held = cc in
    once_among e (0 ∷ named (inputs_of (Flows flows (Some held)))) (inr (inl same))

pub index_among : (flows : FlowTerms) (engine : Option ℕ) (x : ℕ) → flows.index ≡ Some x
    → Among x (edges_of (Some (Flows flows engine)))
index_among flows engine x is =
    once_among x (0 ∷ named (inputs_of (Flows flows engine))) (inr (by engine flows.index is))
  where
    own : (index : Option ℕ) → index ≡ Some x → Among x (named (optional_reference wanted.Index index))
    own None is = absurd (cc)
    own (Some held) is = let same : x ≡ held = cc in inl same

    by : (engine index : Option ℕ) → index ≡ Some x
        → Among x (named (optional_reference wanted.Engine engine ++ optional_reference wanted.Index index))
    by None index is = own index is
    by (Some e) index is = inr (own index is)

-- the quotes of a curve's helpers are among what it observes
pub quote_among : (terms : CurveTerms) (x : ℕ) → Among x (named (helper_references terms.helpers))
    → Among x (edges_of (Some (Curve terms)))
quote_among terms x among = by (moves terms.start)
  where
    by : (b : Bool)
        → Among x (each_once (if b then 0 ∷ named (helper_references terms.helpers) else named
        (helper_references terms.helpers)))
    by true = once_among x (0 ∷ named (helper_references terms.helpers)) (inr among)
    by false = once_among x (named (helper_references terms.helpers)) among

-- ---- weights

pub each_weight : (parts : List Part) → AreEachInRange parts → All (λ part. IsWeight part.weight) parts
each_weight [] each = All-nil (λ part. IsWeight part.weight)
each_weight (part ∷ parts) each = All-cons (λ p. IsWeight p.weight) part parts each.0 (each_weight parts each.1.1)

-- ---- a priced object that shows its last value

pub frozen_shows : (s : State) (o : ℕ) → is_lazy_at s.market o ≡ true → (kept_at s o).frozen ≡ true
    → true ≡ shows_last s o
unfolding is_frozen
frozen_shows s o lazy frozen =
    sym (ap (λ (b : Bool). b && (is_frozen s o || is_late s o)) lazy ∙ ap (λ (b : Bool). b || is_late s o) frozen)

pub late_shows : (s : State) → IsWhole s → (o : ℕ) → is_lazy_at s.market o ≡ true → (kept_at s o).frozen ≡ false
    → is_some (least_source s o) ≡ shows_last s o
unfolding is_frozen
late_shows s whole o lazy thawed =
    sym (ap (λ (b : Bool). b && (is_frozen s o || is_late s o)) lazy ∙ ap (λ (b : Bool). b || is_late s o) thawed
    ∙ late_least s whole o)
