-- The inputs that a price takes are those that its terms want: a reading is well formed, and what is needed is lazy.
use Rattle.std.proofs.Common.{◌≡◌, inl, inr, ℕ, zero, suc, Bool, true, false, List, [], ◌∷◌, ◌++◌, length, Option, Some, None, Result, Ok, Err, refl, sym, ◌∙◌, ap, subst, arith}
use Rattle.std.specs.Prelude.{ℤ, if◌then◌else◌}
use Rattle.walks.specs.Walk.{Among}
use Rattle.desk_terms.specs.declared.terms.Terms.{Terms}
use Rattle.desk_terms.specs.declared.terms.Part.{Part}
use Rattle.curve_terms.specs.declared.terms.Helper.{Helper}
use Rattle.desk_terms.specs.declared.terms.HandleKind as handle
use Rattle.desk_terms.specs.declared.terms.Terms.TheVariants.{Quote, Derived, Handle, Curve, Implied, Index, Engine, Stock, Composite, Flows}
use Rattle.flow_terms.specs.declared.flows.FlowTerms.{FlowTerms}
use Rattle.curve_points.specs.Curve.{Curve as CurveView}
use Rattle.desk_terms.specs.declared.value.Value.TheVariants as value
use Rattle.desk_terms.specs.declared.value.Input as input
use Rattle.desk_terms.specs.declared.kind.Kind as kind
use Rattle.desk_terms.specs.declared.kind.Wanted as wanted
use Rattle.desk_terms.specs.declared.cause.Cause.{Cause}
use Rattle.desk_terms.specs.declared.cause.Cause.TheVariants.{TooLarge}
use Rattle.desk_terms.specs.Terms.{kind_of, moves, reference_to, optional_reference, helper_references, part_references}
use Rattle.flow_terms.specs.Flows.{is_expired, needs_forecast}
use Rattle.desk_terms.specs.Reading.{Outcome, IndexReading, AreMoney, AreRates, IsRate, IsCurve, AreAllCurves, curve_count, IsIndexOf, IsDayRead, AreInRange, IsWellFormed}
use Rattle.desk_model.specs.declared.entry.Entry.{Entry}
use Rattle.desk_model.specs.declared.entry.Entry.TheVariants.{Gives, Needs, Refuses}
use Rattle.desk_model.specs.declared.slot.Slot.{Slot}
use Rattle.desk_model.specs.declared.slot.Slot.TheVariants.{Free, Today, Watcher, Live}
use Rattle.desk_model.specs.Market.{Market, slot_at, terms_in, terms_at, kind_in, kind_at, named, role_of, is_lazy}
use Rattle.desk_model.specs.Uses.{derived_entry, given, input_by, input_at, index_in, index_at, fixings_in, forecast_entries, engine_entries, helper_entries, member_entries, uses_of, needed, needs, reading_at}
use Rattle.desk_model.specs.Fresh.{input_of, and_inputs, and_value, inputs_by}
use Rattle.desk_model.specs.Links.{is_lazy_at, serves_as, Serve, AreOfKind, IsKinded, IsValued}
use Rattle.desk_model.specs.Laws.{AreValues}
use Rattle.desk_model.proofs.Locality.{needed_cons}

-- the kind of terms
abbrev kind_of_terms : Option Terms → Option kind.Kind
kind_of_terms None = None
kind_of_terms (Some terms) = Some (kind_of terms)

serves_terms_in : (slot : Slot) (w : wanted.Wanted) → serves_as (kind_in slot) w ≡ true
    → serves_as (kind_of_terms (terms_in slot)) w ≡ true
serves_terms_in Free w is = absurd (cc)
serves_terms_in Today w is = absurd (cc)
serves_terms_in Watcher w is = absurd (cc)
serves_terms_in (Live terms) w is = is

-- what serves has terms that serve
serves_terms : (m : Market) (x : ℕ) (w : wanted.Wanted) → serves_as (kind_at m x) w ≡ true
    → serves_as (kind_of_terms (terms_at m x)) w ≡ true
serves_terms m x w is = serves_terms_in (slot_at m x) w is

-- a target is an input
target_input : (k : Option kind.Kind) → serves_as k wanted.TheVariants.QuoteTarget ≡ true
    → serves_as k wanted.TheVariants.QuoteInput ≡ true
target_input None is = absurd (cc)
target_input (Some kind.TheVariants.Today) is = absurd (cc)
target_input (Some kind.TheVariants.Quote) is = refl
target_input (Some kind.TheVariants.Derived) is = refl
target_input (Some kind.TheVariants.QuoteHandle) is = absurd (cc)
target_input (Some kind.TheVariants.CurveHandle) is = absurd (cc)
target_input (Some kind.TheVariants.Index) is = absurd (cc)
target_input (Some kind.TheVariants.Engine) is = absurd (cc)
target_input (Some kind.TheVariants.Curve) is = absurd (cc)
target_input (Some kind.TheVariants.Implied) is = absurd (cc)
target_input (Some kind.TheVariants.Stock) is = absurd (cc)
target_input (Some kind.TheVariants.Composite) is = absurd (cc)
target_input (Some kind.TheVariants.Flows) is = absurd (cc)
target_input (Some kind.TheVariants.Watcher) is = absurd (cc)

-- a rate or a refusal
abbrev pub GivesRate : Entry → Type 0
GivesRate (Gives rate) = Unit {0}
GivesRate (Needs x) = ⊥
GivesRate (Refuses cause) = Unit {0}

derived_rate : (o : ℕ) (minus : Bool) (e f : Entry) → GivesRate e → GivesRate f → GivesRate (derived_entry o minus e f)
derived_rate o minus (Refuses c) f a b = tt
derived_rate o minus (Needs x) f a b = tt
derived_rate o minus (Gives r) (Refuses c) a b = tt
derived_rate o minus (Gives r) (Needs x) a b = tt
derived_rate o minus (Gives r) (Gives q) a b = by_range _ _
  where
    by_range : (b : Bool) (rate : ℤ)
        → GivesRate (if b then Gives rate else Refuses (TooLarge o))
    by_range true rate = tt
    by_range false rate = tt

given_rate : (m : Market) (read : ℕ → Entry)
    → ((x : ℕ) → serves_as (kind_at m x) wanted.TheVariants.QuoteInput ≡ true → GivesRate (read x))
    → (o : ℕ) (terms : Option Terms) → AreOfKind m terms
    → serves_as (kind_of_terms terms) wanted.TheVariants.QuoteInput ≡ true → GivesRate (given read o terms)
given_rate m read each o None kinds is = absurd (cc)
given_rate m read each o (Some (Quote None)) kinds is = tt
given_rate m read each o (Some (Quote (Some rate))) kinds is = tt
given_rate m read each o (Some (Derived minus first second)) kinds is = derived_rate o minus (read first) (read second) (each first kinds.0) (each second kinds.1.0)
given_rate m read each o (Some (Handle handle.TheVariants.Quote None)) kinds is = tt
given_rate m read each o (Some (Handle handle.TheVariants.Quote (Some target))) kinds is = each target (target_input (kind_at m target) kinds.0)
given_rate m read each o (Some (Handle handle.TheVariants.Curve target)) kinds is = absurd (cc)
given_rate m read each o (Some (Index terms fixings)) kinds is = absurd (cc)
given_rate m read each o (Some (Engine curve)) kinds is = absurd (cc)
given_rate m read each o (Some (Curve terms)) kinds is = absurd (cc)
given_rate m read each o (Some (Implied curve reference)) kinds is = absurd (cc)
given_rate m read each o (Some (Stock quote)) kinds is = absurd (cc)
given_rate m read each o (Some (Composite parts)) kinds is = absurd (cc)
given_rate m read each o (Some (Flows flows engine)) kinds is = absurd (cc)

-- A QUOTE INPUT gives a rate or a refusal
pub input_rate : (m : Market) → IsKinded m → (n x : ℕ) → serves_as (kind_at m x) wanted.TheVariants.QuoteInput ≡ true
    → GivesRate (input_by m n x)
unfolding input_by
input_rate m kinds zero x is = tt
input_rate m kinds (suc n) x is = given_rate m (input_by m n) (input_rate m kinds n) x (terms_at m x) (kinds x) (serves_terms m x wanted.TheVariants.QuoteInput is)

-- an input that is an object is a lazy one
needs_is : (o y : ℕ) → Needs o ≡ Needs y → y ≡ o
needs_is o y e = cc

no_need : (o : ℕ) (minus : Bool) (y : ℕ) (e f : Entry) → derived_entry o minus e f ≡ Needs y → ⊥
no_need o minus y (Refuses cause) f is = cc
no_need o minus y (Needs x) f is = cc
no_need o minus y (Gives a) (Refuses cause) is = cc
no_need o minus y (Gives a) (Needs x) is = cc
no_need o minus y (Gives a) (Gives b) is = by_range _ _ is
  where
    by_range : (b : Bool) (rate : ℤ)
        → (if b then Gives rate else Refuses (TooLarge o)) ≡ Needs y → ⊥
    by_range true rate is = cc
    by_range false rate is = cc

given_lazy : (m : Market) (read : ℕ → Entry) → ((x y : ℕ) → read x ≡ Needs y → is_lazy_at m y ≡ true)
    → (o y : ℕ) (terms : Option Terms) → terms_at m o ≡ terms → given read o terms ≡ Needs y → is_lazy_at m y ≡ true
given_lazy m read each o y None here is = absurd (cc)
given_lazy m read each o y (Some (Quote None)) here is = absurd (cc)
given_lazy m read each o y (Some (Quote (Some rate))) here is = absurd (cc)
given_lazy m read each o y (Some (Derived minus first second)) here is = absurd (no_need o minus y (read first) (read second) is)
given_lazy m read each o y (Some (Handle kind None)) here is = absurd (cc)
given_lazy m read each o y (Some (Handle kind (Some target))) here is = each target y is
given_lazy m read each o y (Some (Index terms fixings)) here is = each terms.curve y is
given_lazy m read each o y (Some (Engine curve)) here is = each curve y is
given_lazy m read each o y (Some (Curve terms)) here is = ap (λ (z : ℕ). is_lazy_at m z) (needs_is o y is)
    ∙ ap (λ (t : Option Terms). is_lazy (role_of t)) here
given_lazy m read each o y (Some (Implied curve reference)) here is = ap (λ (z : ℕ). is_lazy_at m z) (needs_is o y is)
    ∙ ap (λ (t : Option Terms). is_lazy (role_of t)) here
given_lazy m read each o y (Some (Stock quote)) here is = ap (λ (z : ℕ). is_lazy_at m z) (needs_is o y is)
    ∙ ap (λ (t : Option Terms). is_lazy (role_of t)) here
given_lazy m read each o y (Some (Composite parts)) here is = ap (λ (z : ℕ). is_lazy_at m z) (needs_is o y is)
    ∙ ap (λ (t : Option Terms). is_lazy (role_of t)) here
given_lazy m read each o y (Some (Flows flows engine)) here is = ap (λ (z : ℕ). is_lazy_at m z) (needs_is o y is)
    ∙ ap (λ (t : Option Terms). is_lazy (role_of t)) here

pub input_lazy : (m : Market) (n x y : ℕ) → input_by m n x ≡ Needs y → is_lazy_at m y ≡ true
unfolding input_by
input_lazy m zero x y is = absurd (cc)
input_lazy m (suc n) x y is = given_lazy m (input_by m n) (input_lazy m n) x y (terms_at m x) refl is

-- a member is lazy
member_lazy_in : (slot : Slot) → serves_as (kind_in slot) wanted.TheVariants.Member ≡ true
    → is_lazy (role_of (terms_in slot)) ≡ true
member_lazy_in Free is = absurd (cc)
member_lazy_in Today is = absurd (cc)
member_lazy_in Watcher is = absurd (cc)
member_lazy_in (Live (Quote value)) is = absurd (cc)
member_lazy_in (Live (Derived minus first second)) is = absurd (cc)
member_lazy_in (Live (Handle handle.TheVariants.Quote target)) is = absurd (cc)
member_lazy_in (Live (Handle handle.TheVariants.Curve target)) is = absurd (cc)
member_lazy_in (Live (Index terms fixings)) is = absurd (cc)
member_lazy_in (Live (Engine curve)) is = absurd (cc)
member_lazy_in (Live (Curve terms)) is = absurd (cc)
member_lazy_in (Live (Implied curve reference)) is = absurd (cc)
member_lazy_in (Live (Stock quote)) is = refl
member_lazy_in (Live (Composite parts)) is = refl
member_lazy_in (Live (Flows flows engine)) is = refl

members_lazy : (m : Market) (y : ℕ) (parts : List Part) → Serve m (part_references parts)
    → Among y (needed (member_entries parts)) → is_lazy_at m y ≡ true
members_lazy m y [] serve among = absurd among
members_lazy m y (part ∷ parts) serve (inl same) = subst (λ (z : ℕ). is_lazy_at m z ≡ true) (sym same) (member_lazy_in (slot_at m part.member) serve.0)
members_lazy m y (part ∷ parts) serve (inr among) = members_lazy m y parts serve.1 among

module _ (m : Market) (read : ℕ → Entry) (each : (x y : ℕ) → read x ≡ Needs y → is_lazy_at m y ≡ true) where
  one_lazy : (x y : ℕ) (entries : List Entry) → (Among y (needed entries) → is_lazy_at m y ≡ true)
      → Among y (needed (read x ∷ entries)) → is_lazy_at m y ≡ true
  one_lazy x y entries rest among = elim (needed_cons y (read x) entries among) [ inl is ↦ each x y is | inr more ↦ rest more ]

  helpers_lazy : (y : ℕ) (helpers : List Helper) → Among y (needed (helper_entries read helpers))
      → is_lazy_at m y ≡ true
  helpers_lazy y [] among = absurd among
  helpers_lazy y (helper ∷ helpers) among = one_lazy helper.quote y (helper_entries read helpers) (λ more. helpers_lazy y helpers more) among

  forecast_lazy : (y : ℕ) (flows : FlowTerms) (index : Option ℕ)
      → Among y (needed (forecast_entries read m flows.flows index)) → is_lazy_at m y ≡ true
  forecast_lazy y flows None among = absurd among
  forecast_lazy y flows (Some x) among = by_need (needs_forecast flows.flows (fixings_in (index_in x (terms_at m x))) m.today) among
    where
      by_need : (b : Bool) → Among y (needed (if b then read x ∷ [] else [])) → is_lazy_at m y ≡ true
      by_need true among = one_lazy x y [] (λ none. absurd none) among
      by_need false among = absurd among

  uses_lazy : (o y : ℕ) (terms : Option Terms) → AreOfKind m terms → Among y (needed (uses_of read m o terms))
      → is_lazy_at m y ≡ true
  uses_lazy o y None kinds among = absurd among
  uses_lazy o y (Some (Quote value)) kinds among = absurd among
  uses_lazy o y (Some (Derived minus first second)) kinds among = absurd among
  uses_lazy o y (Some (Handle kind target)) kinds among = absurd among
  uses_lazy o y (Some (Index terms fixings)) kinds among = absurd among
  uses_lazy o y (Some (Engine curve)) kinds among = absurd among
  uses_lazy o y (Some (Curve terms)) kinds among = helpers_lazy y terms.helpers among
  uses_lazy o y (Some (Implied curve reference)) kinds among = one_lazy curve y [] (λ none. absurd none) among
  uses_lazy o y (Some (Stock quote)) kinds among = one_lazy quote y [] (λ none. absurd none) among
  uses_lazy o y (Some (Composite parts)) kinds among = members_lazy m y parts kinds among
  uses_lazy o y (Some (Flows flows engine)) kinds among = by_day (is_expired flows.flows m.today) among
    where
      by_engine : (engine : Option ℕ)
          → Among y (needed (engine_entries read o engine (forecast_entries read m flows.flows flows.index)))
          → is_lazy_at m y ≡ true
      by_engine None among = absurd among
      by_engine (Some e) among = one_lazy e y (forecast_entries read m flows.flows flows.index) (λ more. forecast_lazy y flows flows.index more) among

      by_day : (b : Bool)
          → Among y (needed (if b then [] else engine_entries read o engine (forecast_entries read m flows.flows flows.index)))
          → is_lazy_at m y ≡ true
      by_day true among = absurd among
      by_day false among = by_engine engine among

-- WHAT A PRICE NEEDS is lazy
pub needs_lazy : (m : Market) → IsKinded m → (o y : ℕ) → Among y (needs m o) → is_lazy_at m y ≡ true
unfolding input_at
needs_lazy m kinds o y among = uses_lazy m (input_at m) (λ x z is. input_lazy m (suc (length m.objects)) x z is) o y (terms_at m o) (kinds o) among

abbrev as_ok : List input.Input → Result (List input.Input) Cause
as_ok inputs = Ok inputs

ok_is : (a b : List input.Input) → as_ok a ≡ as_ok b → a ≡ b
ok_is a b e = cc

ok_and : (i : input.Input) (r : Result (List input.Input) Cause) (inputs : List input.Input)
    → and_inputs i r ≡ Ok inputs → (rest : List input.Input) × (r ≡ Ok rest) × (inputs ≡ i ∷ rest)
ok_and i (Ok rest) inputs e = (rest, refl, sym (ok_is (i ∷ rest) inputs e))
ok_and i (Err c) inputs e = absurd (cc)

-- as many inputs as entries
count_inputs : (f : ℕ → Outcome) (entries : List Entry) (inputs : List input.Input) → inputs_by f entries ≡ Ok inputs
    → length inputs ≡ length entries
count_inputs f [] inputs e = ap length (sym (ok_is [] inputs e))
count_inputs f (Gives r ∷ entries) inputs e = let a = ok_and (input.TheVariants.Rate r) (inputs_by f entries) inputs e in ap length a.2 ∙ ap suc (count_inputs f entries a.0 a.1)
count_inputs f (Refuses c ∷ entries) inputs e = absurd (cc)
count_inputs f (Needs x ∷ entries) inputs e = by_value (f x) e (λ rest. count_inputs f entries rest)
  where
    by_value : (r : Outcome) → and_value r (inputs_by f entries) ≡ Ok inputs
        → ((rest : List input.Input) → inputs_by f entries ≡ Ok rest → length rest ≡ length entries)
        → length inputs ≡ suc (length entries)
    by_value (Ok v) e more = let a = ok_and (input_of v) (inputs_by f entries) inputs e in ap length a.2 ∙ ap suc (more a.0 a.1)
    by_value (Err c) e more = absurd (cc)

-- what may be a member is worth no curve
member_no_curve : (m : Market) (x : ℕ) (slot : Slot) (c : CurveView) → serves_as (kind_in slot) wanted.TheVariants.Member ≡ true
    → IsValued (terms_in slot) x (value.Curve c) → ⊥
member_no_curve m x Free c is worth = absurd (cc)
member_no_curve m x Today c is worth = absurd (cc)
member_no_curve m x Watcher c is worth = absurd (cc)
member_no_curve m x (Live (Quote v)) c is worth = absurd (cc)
member_no_curve m x (Live (Derived minus first second)) c is worth = absurd (cc)
member_no_curve m x (Live (Handle handle.TheVariants.Quote target)) c is worth = absurd (cc)
member_no_curve m x (Live (Handle handle.TheVariants.Curve target)) c is worth = absurd (cc)
member_no_curve m x (Live (Index terms fixings)) c is worth = absurd (cc)
member_no_curve m x (Live (Engine curve)) c is worth = absurd (cc)
member_no_curve m x (Live (Curve terms)) c is worth = absurd (cc)
member_no_curve m x (Live (Implied curve reference)) c is worth = absurd (cc)
member_no_curve m x (Live (Stock quote)) c is worth = worth
member_no_curve m x (Live (Composite parts)) c is worth = worth
member_no_curve m x (Live (Flows flows engine)) c is worth = worth

money_inputs : (m : Market) (f : ℕ → Outcome) → AreValues m f → (parts : List Part) (inputs : List input.Input)
    → Serve m (part_references parts) → inputs_by f (member_entries parts) ≡ Ok inputs → AreMoney parts inputs
money_inputs m f values [] inputs serve e = subst (AreMoney []) (ok_is [] inputs e) tt
money_inputs m f values (part ∷ parts) inputs serve e = by_value (f part.member) refl e (λ rest. money_inputs m f values parts rest serve.1)
  where
    by_value : (r : Outcome) → f part.member ≡ r → and_value r (inputs_by f (member_entries parts)) ≡ Ok inputs
        → ((rest : List input.Input) → inputs_by f (member_entries parts) ≡ Ok rest → AreMoney parts rest)
        → AreMoney (part ∷ parts) inputs
    by_value (Ok (value.Money amount)) is e more = let a = ok_and (input.TheVariants.Money amount) (inputs_by f (member_entries parts)) inputs e in subst (AreMoney (part ∷ parts)) (sym a.2) (more a.0 a.1)
    by_value (Ok (value.Curve c)) is e more = absurd (member_no_curve m part.member (slot_at m part.member) c serve.0 (values part.member (value.Curve c) (member_lazy_in (slot_at m part.member) serve.0) is))
    by_value (Err c) is e more = absurd (cc)

-- the inputs of a stock and of a curve are rates
rate_input : (f : ℕ → Outcome) (e : Entry) (inputs : List input.Input) → GivesRate e → inputs_by f (e ∷ []) ≡ Ok inputs
    → IsRate inputs
rate_input f (Gives rate) inputs is e = subst IsRate (ok_is (input.TheVariants.Rate rate ∷ []) inputs e) tt
rate_input f (Needs x) inputs is e = absurd is
rate_input f (Refuses c) inputs is e = absurd (cc)

rate_inputs : (f : ℕ → Outcome) (read : ℕ → Entry) (helpers : List Helper) (inputs : List input.Input)
    → ((x : ℕ) → Among x (named (helper_references helpers)) → GivesRate (read x))
    → inputs_by f (helper_entries read helpers) ≡ Ok inputs → AreRates helpers inputs
rate_inputs f read [] inputs rates e = subst (AreRates []) (ok_is [] inputs e) tt
rate_inputs f read (helper ∷ helpers) inputs rates e = by_entry (read helper.quote) (rates helper.quote (inl refl)) e (λ rest. rate_inputs f read helpers rest (λ x among. rates x (inr among)))
  where
    by_entry : (entry : Entry) → GivesRate entry → inputs_by f (entry ∷ helper_entries read helpers) ≡ Ok inputs
        → ((rest : List input.Input) → inputs_by f (helper_entries read helpers) ≡ Ok rest → AreRates helpers rest)
        → AreRates (helper ∷ helpers) inputs
    by_entry (Gives rate) is e more = let a = ok_and (input.TheVariants.Rate rate) (inputs_by f (helper_entries read helpers)) inputs e in subst (AreRates (helper ∷ helpers)) (sym a.2) (more a.0 a.1)
    by_entry (Needs x) is e more = absurd is
    by_entry (Refuses c) is e more = absurd (cc)

helpers_serve : (m : Market) (helpers : List Helper) → Serve m (helper_references helpers) → (x : ℕ)
    → Among x (named (helper_references helpers)) → serves_as (kind_at m x) wanted.TheVariants.QuoteInput ≡ true
helpers_serve m [] serve x among = absurd among
helpers_serve m (helper ∷ helpers) serve x (inl same) = subst (λ (z : ℕ). serves_as (kind_at m z) wanted.TheVariants.QuoteInput ≡ true) (sym same) serve.0
helpers_serve m (helper ∷ helpers) serve x (inr among) = helpers_serve m helpers serve.1 x among

-- an index that is named is there
index_there : (x : ℕ) (terms : Option Terms) → serves_as (kind_of_terms terms) wanted.TheVariants.Index ≡ true
    → (index : IndexReading) × (index_in x terms ≡ Some index) × (index.object ≡ x)
index_there x None is = absurd (cc)
index_there x (Some (Quote value)) is = absurd (cc)
index_there x (Some (Derived minus first second)) is = absurd (cc)
index_there x (Some (Handle handle.TheVariants.Quote target)) is = absurd (cc)
index_there x (Some (Handle handle.TheVariants.Curve target)) is = absurd (cc)
index_there x (Some (Index terms fixings)) is = (record { object = x; terms = terms; fixings = fixings }, refl, refl)
index_there x (Some (Engine curve)) is = absurd (cc)
index_there x (Some (Curve terms)) is = absurd (cc)
index_there x (Some (Implied curve reference)) is = absurd (cc)
index_there x (Some (Stock quote)) is = absurd (cc)
index_there x (Some (Composite parts)) is = absurd (cc)
index_there x (Some (Flows flows engine)) is = absurd (cc)

index_serves : (m : Market) (flows : FlowTerms) (engine : Option ℕ) → AreOfKind m (Some (Flows flows engine)) → (x : ℕ)
    → flows.index ≡ Some x → serves_as (kind_at m x) wanted.TheVariants.Index ≡ true
index_serves m flows engine kinds x is = by_engine engine (subst (λ (i : Option ℕ). Serve m (optional_reference wanted.TheVariants.Engine engine ++ optional_reference wanted.TheVariants.Index i)) is kinds)
  where
    by_engine : (engine : Option ℕ)
        → Serve m (optional_reference wanted.TheVariants.Engine engine ++ reference_to wanted.TheVariants.Index x ∷ [])
        → serves_as (kind_at m x) wanted.TheVariants.Index ≡ true
    by_engine None serve = serve.0
    by_engine (Some e) serve = serve.1.0

named_there : (m : Market) (flows : FlowTerms) (engine : Option ℕ) → AreOfKind m (Some (Flows flows engine)) → (x : ℕ)
    → flows.index ≡ Some x → (index : IndexReading) × (index_in x (terms_at m x) ≡ Some index) × (index.object ≡ x)
named_there m flows engine kinds x is = index_there x (terms_at m x) (serves_terms m x wanted.TheVariants.Index (index_serves m flows engine kinds x is))

-- flows are read with as many curves as they want
curve_inputs : (m : Market) (read : ℕ → Entry) (f : ℕ → Outcome) (o : ℕ) (flows : FlowTerms) (engine : Option ℕ) (inputs : List input.Input)
    → AreOfKind m (Some (Flows flows engine))
    → inputs_by f (uses_of read m o (Some (Flows flows engine))) ≡ Ok inputs
    → length inputs ≡ curve_count flows m.today (index_at m flows.index)
curve_inputs m read f o flows engine inputs kinds e = by_index flows.index engine (λ x is. named_there m flows engine kinds x is) e
  where
    by_need : (b : Bool) → length (if b then read o ∷ [] else []) ≡ (if b then 1 else 0)
    by_need true = refl
    by_need false = refl

    plain : (b : Bool) (engine : Option ℕ) → inputs_by f (if b then [] else engine_entries read o engine []) ≡ Ok inputs
        → length inputs ≡ (if b then 0 else 1)
    plain true engine e = count_inputs f [] inputs e
    plain false None e = absurd (cc)
    plain false (Some x) e = count_inputs f (read x ∷ []) inputs e

    with_index : (b c : Bool) (engine : Option ℕ) (x : ℕ)
        → inputs_by f (if b then [] else engine_entries read o engine (if c then read x ∷ [] else [])) ≡ Ok inputs
        → length inputs ≡ (if b then 0 else if c then 2 else 1)
    with_index true c engine x e = count_inputs f [] inputs e
    with_index false c None x e = absurd (cc)
    with_index false true (Some y) x e = count_inputs f (read y ∷ read x ∷ []) inputs e
    with_index false false (Some y) x e = count_inputs f (read y ∷ []) inputs e

    counted : (x : ℕ) (index : IndexReading) (r : Option IndexReading) → r ≡ Some index
        → (if is_expired flows.flows m.today then 0 else if needs_forecast flows.flows (fixings_in r) m.today then 2 else 1) ≡ curve_count flows m.today r
    counted x index None is = absurd (cc)
    counted x index (Some i) is = refl

    by_index : (index engine : Option ℕ)
        → ((x : ℕ) → index ≡ Some x → (i : IndexReading) × (index_in x (terms_at m x) ≡ Some i) × (i.object ≡ x))
        → inputs_by f (if is_expired flows.flows m.today then [] else engine_entries read o engine (forecast_entries read m flows.flows index)) ≡ Ok inputs
        → length inputs ≡ curve_count flows m.today (index_at m index)
    by_index None engine there e = plain (is_expired flows.flows m.today) engine e
    by_index (Some x) engine there e =
        let i = there x refl in
        with_index (is_expired flows.flows m.today) (needs_forecast flows.flows (fixings_in (index_in x (terms_at m x))) m.today) engine x e
        ∙ counted x i.0 (index_in x (terms_at m x)) i.1

index_is : (m : Market) (flows : FlowTerms) (engine : Option ℕ) → AreOfKind m (Some (Flows flows engine))
    → IsIndexOf flows.index (index_at m flows.index)
index_is m flows engine kinds = by_index flows.index (λ x is. named_there m flows engine kinds x is)
  where
    by_index : (index : Option ℕ)
        → ((x : ℕ) → index ≡ Some x → (i : IndexReading) × (index_in x (terms_at m x) ≡ Some i) × (i.object ≡ x))
        → IsIndexOf index (index_at m index)
    by_index None there = tt
    by_index (Some x) there = let i = there x refl in subst (IsIndexOf (Some x)) (sym i.1) i.2

-- a curve target is a curve input, and what is one has terms of a curve
curve_target_input : (k : Option kind.Kind) → serves_as k wanted.TheVariants.CurveTarget ≡ true
    → serves_as k wanted.TheVariants.CurveInput ≡ true
curve_target_input None is = absurd (cc)
curve_target_input (Some kind.TheVariants.Today) is = absurd (cc)
curve_target_input (Some kind.TheVariants.Quote) is = absurd (cc)
curve_target_input (Some kind.TheVariants.Derived) is = absurd (cc)
curve_target_input (Some kind.TheVariants.QuoteHandle) is = absurd (cc)
curve_target_input (Some kind.TheVariants.CurveHandle) is = absurd (cc)
curve_target_input (Some kind.TheVariants.Index) is = absurd (cc)
curve_target_input (Some kind.TheVariants.Engine) is = absurd (cc)
curve_target_input (Some kind.TheVariants.Curve) is = refl
curve_target_input (Some kind.TheVariants.Implied) is = refl
curve_target_input (Some kind.TheVariants.Stock) is = absurd (cc)
curve_target_input (Some kind.TheVariants.Composite) is = absurd (cc)
curve_target_input (Some kind.TheVariants.Flows) is = absurd (cc)
curve_target_input (Some kind.TheVariants.Watcher) is = absurd (cc)

-- a curve to be computed, or a refusal
abbrev pub GivesCurve : Market → Entry → Type 0
GivesCurve m (Gives rate) = ⊥
GivesCurve m (Needs x) = serves_as (kind_of_terms (terms_at m x)) wanted.TheVariants.CurveTarget ≡ true
GivesCurve m (Refuses cause) = Unit {0}

given_curve : (m : Market) (read : ℕ → Entry)
    → ((x : ℕ) → serves_as (kind_at m x) wanted.TheVariants.CurveInput ≡ true → GivesCurve m (read x))
    → (o : ℕ) (terms : Option Terms) → terms_at m o ≡ terms → AreOfKind m terms
    → serves_as (kind_of_terms terms) wanted.TheVariants.CurveInput ≡ true → GivesCurve m (given read o terms)
given_curve m read each o None here kinds is = absurd (cc)
given_curve m read each o (Some (Quote v)) here kinds is = absurd (cc)
given_curve m read each o (Some (Derived minus first second)) here kinds is = absurd (cc)
given_curve m read each o (Some (Handle handle.TheVariants.Quote target)) here kinds is = absurd (cc)
given_curve m read each o (Some (Handle handle.TheVariants.Curve None)) here kinds is = tt
given_curve m read each o (Some (Handle handle.TheVariants.Curve (Some target))) here kinds is = each target (curve_target_input (kind_at m target) kinds.0)
given_curve m read each o (Some (Index terms fixings)) here kinds is = absurd (cc)
given_curve m read each o (Some (Engine curve)) here kinds is = absurd (cc)
given_curve m read each o (Some (Curve terms)) here kinds is = ap (λ (t : Option Terms). serves_as (kind_of_terms t) wanted.TheVariants.CurveTarget) here
given_curve m read each o (Some (Implied curve reference)) here kinds is = ap (λ (t : Option Terms). serves_as (kind_of_terms t) wanted.TheVariants.CurveTarget) here
given_curve m read each o (Some (Stock quote)) here kinds is = absurd (cc)
given_curve m read each o (Some (Composite parts)) here kinds is = absurd (cc)
given_curve m read each o (Some (Flows flows engine)) here kinds is = absurd (cc)

-- A CURVE INPUT gives a curve to be computed, or a refusal
pub input_curve : (m : Market) → IsKinded m → (n x : ℕ) → serves_as (kind_at m x) wanted.TheVariants.CurveInput ≡ true
    → GivesCurve m (input_by m n x)
unfolding input_by
input_curve m kinds zero x is = tt
input_curve m kinds (suc n) x is = given_curve m (input_by m n) (input_curve m kinds n) x (terms_at m x) refl (kinds x) (serves_terms m x wanted.TheVariants.CurveInput is)

-- and so do an engine and an index
given_engine : (m : Market) (read : ℕ → Entry)
    → ((x : ℕ) → serves_as (kind_at m x) wanted.TheVariants.CurveInput ≡ true → GivesCurve m (read x))
    → (o : ℕ) (terms : Option Terms) → AreOfKind m terms
    → serves_as (kind_of_terms terms) wanted.TheVariants.Engine ≡ true → GivesCurve m (given read o terms)
given_engine m read each o None kinds is = absurd (cc)
given_engine m read each o (Some (Quote v)) kinds is = absurd (cc)
given_engine m read each o (Some (Derived minus first second)) kinds is = absurd (cc)
given_engine m read each o (Some (Handle handle.TheVariants.Quote target)) kinds is = absurd (cc)
given_engine m read each o (Some (Handle handle.TheVariants.Curve target)) kinds is = absurd (cc)
given_engine m read each o (Some (Index terms fixings)) kinds is = absurd (cc)
given_engine m read each o (Some (Engine curve)) kinds is = each curve kinds.0
given_engine m read each o (Some (Curve terms)) kinds is = absurd (cc)
given_engine m read each o (Some (Implied curve reference)) kinds is = absurd (cc)
given_engine m read each o (Some (Stock quote)) kinds is = absurd (cc)
given_engine m read each o (Some (Composite parts)) kinds is = absurd (cc)
given_engine m read each o (Some (Flows flows engine)) kinds is = absurd (cc)

given_index : (m : Market) (read : ℕ → Entry)
    → ((x : ℕ) → serves_as (kind_at m x) wanted.TheVariants.CurveInput ≡ true → GivesCurve m (read x))
    → (o : ℕ) (terms : Option Terms) → AreOfKind m terms
    → serves_as (kind_of_terms terms) wanted.TheVariants.Index ≡ true → GivesCurve m (given read o terms)
given_index m read each o None kinds is = absurd (cc)
given_index m read each o (Some (Quote v)) kinds is = absurd (cc)
given_index m read each o (Some (Derived minus first second)) kinds is = absurd (cc)
given_index m read each o (Some (Handle handle.TheVariants.Quote target)) kinds is = absurd (cc)
given_index m read each o (Some (Handle handle.TheVariants.Curve target)) kinds is = absurd (cc)
given_index m read each o (Some (Index terms fixings)) kinds is = each terms.curve kinds.0
given_index m read each o (Some (Engine curve)) kinds is = absurd (cc)
given_index m read each o (Some (Curve terms)) kinds is = absurd (cc)
given_index m read each o (Some (Implied curve reference)) kinds is = absurd (cc)
given_index m read each o (Some (Stock quote)) kinds is = absurd (cc)
given_index m read each o (Some (Composite parts)) kinds is = absurd (cc)
given_index m read each o (Some (Flows flows engine)) kinds is = absurd (cc)

engine_curve : (m : Market) → IsKinded m → (x : ℕ) → serves_as (kind_at m x) wanted.TheVariants.Engine ≡ true
    → GivesCurve m (input_at m x)
unfolding input_at input_by
engine_curve m kinds x is = given_engine m (input_by m (length m.objects)) (input_curve m kinds (length m.objects)) x (terms_at m x) (kinds x) (serves_terms m x wanted.TheVariants.Engine is)

index_curve : (m : Market) → IsKinded m → (x : ℕ) → serves_as (kind_at m x) wanted.TheVariants.Index ≡ true
    → GivesCurve m (input_at m x)
unfolding input_at input_by
index_curve m kinds x is = given_index m (input_by m (length m.objects)) (input_curve m kinds (length m.objects)) x (terms_at m x) (kinds x) (serves_terms m x wanted.TheVariants.Index is)

-- entries that give curves
abbrev pub GiveCurves : Market → List Entry → Type 0
GiveCurves m [] = Unit {0}
GiveCurves m (e ∷ entries) = GivesCurve m e × GiveCurves m entries

-- what serves as a curve is lazy, and worth no money
curve_lazy : (terms : Option Terms) → serves_as (kind_of_terms terms) wanted.TheVariants.CurveTarget ≡ true
    → is_lazy (role_of terms) ≡ true
curve_lazy None is = absurd (cc)
curve_lazy (Some (Quote v)) is = absurd (cc)
curve_lazy (Some (Derived minus first second)) is = absurd (cc)
curve_lazy (Some (Handle handle.TheVariants.Quote target)) is = absurd (cc)
curve_lazy (Some (Handle handle.TheVariants.Curve target)) is = absurd (cc)
curve_lazy (Some (Index terms fixings)) is = absurd (cc)
curve_lazy (Some (Engine curve)) is = absurd (cc)
curve_lazy (Some (Curve terms)) is = refl
curve_lazy (Some (Implied curve reference)) is = refl
curve_lazy (Some (Stock quote)) is = absurd (cc)
curve_lazy (Some (Composite parts)) is = absurd (cc)
curve_lazy (Some (Flows flows engine)) is = absurd (cc)

curve_no_money : (x : ℕ) (terms : Option Terms) (amount : ℤ)
    → serves_as (kind_of_terms terms) wanted.TheVariants.CurveTarget ≡ true → IsValued terms x (value.Money amount) → ⊥
curve_no_money x None amount is worth = worth
curve_no_money x (Some (Quote v)) amount is worth = absurd (cc)
curve_no_money x (Some (Derived minus first second)) amount is worth = absurd (cc)
curve_no_money x (Some (Handle handle.TheVariants.Quote target)) amount is worth = absurd (cc)
curve_no_money x (Some (Handle handle.TheVariants.Curve target)) amount is worth = absurd (cc)
curve_no_money x (Some (Index terms fixings)) amount is worth = absurd (cc)
curve_no_money x (Some (Engine curve)) amount is worth = absurd (cc)
curve_no_money x (Some (Curve terms)) amount is worth = worth
curve_no_money x (Some (Implied curve reference)) amount is worth = worth
curve_no_money x (Some (Stock quote)) amount is worth = absurd (cc)
curve_no_money x (Some (Composite parts)) amount is worth = absurd (cc)
curve_no_money x (Some (Flows flows engine)) amount is worth = absurd (cc)

-- the inputs that such entries give are curves
all_curves : (m : Market) (f : ℕ → Outcome) → AreValues m f → (entries : List Entry) (inputs : List input.Input)
    → GiveCurves m entries → inputs_by f entries ≡ Ok inputs → AreAllCurves inputs
all_curves m f values [] inputs give e = subst AreAllCurves (ok_is [] inputs e) tt
all_curves m f values (Gives r ∷ entries) inputs give e = absurd give.0
all_curves m f values (Refuses c ∷ entries) inputs give e = absurd (cc)
all_curves m f values (Needs x ∷ entries) inputs give e = by_value (f x) refl e (λ rest. all_curves m f values entries rest give.1)
  where
    by_value : (r : Outcome) → f x ≡ r → and_value r (inputs_by f entries) ≡ Ok inputs
        → ((rest : List input.Input) → inputs_by f entries ≡ Ok rest → AreAllCurves rest) → AreAllCurves inputs
    by_value (Ok (value.Money amount)) is e more = absurd (curve_no_money x (terms_at m x) amount give.0 (values x (value.Money amount) (curve_lazy (terms_at m x) give.0) is))
    by_value (Ok (value.Curve c)) is e more = let a = ok_and (input.TheVariants.Curve c) (inputs_by f entries) inputs e in subst AreAllCurves (sym a.2) (more a.0 a.1)
    by_value (Err c) is e more = absurd (cc)

one_curve : (inputs : List input.Input) → length inputs ≡ 1 → AreAllCurves inputs → IsCurve inputs
one_curve [] long all = absurd (cc)
one_curve (input.TheVariants.Money amount ∷ inputs) long all = all
one_curve (input.TheVariants.Rate rate ∷ inputs) long all = all
one_curve (input.TheVariants.Curve c ∷ []) long all = tt
one_curve (input.TheVariants.Curve c ∷ i ∷ inputs) long all = absurd (omega (arith, long))

-- flows take curves
flows_curves : (m : Market) → IsKinded m → (o : ℕ) (flows : FlowTerms) (engine : Option ℕ)
    → AreOfKind m (Some (Flows flows engine)) → GiveCurves m (uses_of (input_at m) m o (Some (Flows flows engine)))
flows_curves m kinds o flows engine kind = by_day (is_expired flows.flows m.today)
  where
    forecast : (index : Option ℕ) → ((x : ℕ) → index ≡ Some x → serves_as (kind_at m x) wanted.TheVariants.Index ≡ true)
        → GiveCurves m (forecast_entries (input_at m) m flows.flows index)
    forecast None serves = tt
    forecast (Some x) serves = by_need (needs_forecast flows.flows (fixings_in (index_in x (terms_at m x))) m.today)
      where
        by_need : (b : Bool) → GiveCurves m (if b then input_at m x ∷ [] else [])
        by_need true = (index_curve m kinds x (serves x refl), tt)
        by_need false = tt

    by_engine : (engine : Option ℕ) → Serve m (optional_reference wanted.TheVariants.Engine engine ++ optional_reference wanted.TheVariants.Index flows.index)
        → GiveCurves m (engine_entries (input_at m) o engine (forecast_entries (input_at m) m flows.flows flows.index))
    by_engine None serve = (tt, tt)
    by_engine (Some x) serve = (engine_curve m kinds x serve.0, forecast flows.index (λ y is. index_serves m flows engine kind y is))

    by_day : (b : Bool) → GiveCurves m (if b then [] else engine_entries (input_at m) o engine (forecast_entries (input_at m) m flows.flows flows.index))
    by_day true = tt
    by_day false = by_engine engine kind

day_is : (b : Bool) (today : ℤ) → IsDayRead b (if b then Some today else None)
day_is true today = tt
day_is false today = tt

not_lazy : {P : Type 0} → false ≡ true → P
not_lazy e = absurd (cc)

-- THE INPUTS of a price are those that its terms ask for, so a bench may be asked
pub well_formed : (m : Market) → IsKinded m → (f : ℕ → Outcome) → AreValues m f → (o : ℕ) (terms : Terms)
    (inputs : List input.Input) → AreInRange terms → AreOfKind m (Some terms) → is_lazy (role_of (Some terms)) ≡ true
    → inputs_by f (uses_of (input_at m) m o (Some terms)) ≡ Ok inputs → IsWellFormed (reading_at m o terms inputs)
unfolding input_at
well_formed m kinds f values o (Quote value) inputs range kind lazy e = not_lazy lazy
well_formed m kinds f values o (Derived minus first second) inputs range kind lazy e = not_lazy lazy
well_formed m kinds f values o (Handle handle.TheVariants.Quote target) inputs range kind lazy e = not_lazy lazy
well_formed m kinds f values o (Handle handle.TheVariants.Curve target) inputs range kind lazy e = not_lazy lazy
well_formed m kinds f values o (Index terms fixings) inputs range kind lazy e = not_lazy lazy
well_formed m kinds f values o (Engine curve) inputs range kind lazy e = not_lazy lazy
well_formed m kinds f values o (Curve terms) inputs range kind lazy e = record {
  inputs = rate_inputs f (input_at m) terms.helpers inputs (λ x among. input_rate m kinds (suc (length m.objects)) x (helpers_serve m terms.helpers kind x among)) e;
  today = day_is (moves terms.start) m.today;
  index = tt;
  range = range;
}
well_formed m kinds f values o (Implied curve reference) inputs range kind lazy e = record {
  inputs = one_curve inputs (count_inputs f (input_at m curve ∷ []) inputs e) (all_curves m f values (input_at m curve ∷ []) inputs (input_curve m kinds (suc (length m.objects)) curve kind.0, tt) e);
  today = tt;
  index = tt;
  range = tt;
}
well_formed m kinds f values o (Stock quote) inputs range kind lazy e = record { inputs = rate_input f (input_at m quote) inputs (input_rate m kinds (suc (length m.objects)) quote kind.0) e; today = tt; index = tt; range = tt }
well_formed m kinds f values o (Composite parts) inputs range kind lazy e = record { inputs = money_inputs m f values parts inputs kind e; today = tt; index = tt; range = range }
well_formed m kinds f values o (Flows flows engine) inputs range kind lazy e = record {
  inputs = (curve_inputs m (input_at m) f o flows engine inputs kind e, all_curves m f values (uses_of (input_at m) m o (Some (Flows flows engine))) inputs (flows_curves m kinds o flows engine kind) e);
  today = tt;
  index = index_is m flows engine kind;
  range = range;
}
