-- What an object uses depends on its own terms and on what is near it alone: the objects that it reaches through forwarders.
use Rattle.std.proofs.Common.{◌≡◌, ◌⊎◌, inl, inr, ℕ, zero, suc, ◌<◌, ◌≤◌, Bool, true, false, List, [], ◌∷◌, length, Option, Some, None, Result, Ok, Err, refl, sym, ◌∙◌, ap, subst, arith}
use Rattle.std.specs.Prelude.{ℤ, if◌then◌else◌, ◌==◌}
use Rattle.std.proofs.lemmas.Bool.{eqb-true}
use Rattle.walks.specs.Walk.{Among, Falls}
use Rattle.walks.specs.Walk.Below.{beyond}
use Rattle.walks.proofs.Ranks.{Meets, meets_next, below_falls}
use Rattle.desk_terms.specs.declared.terms.Terms.{Terms}
use Rattle.desk_terms.specs.declared.terms.Part.{Part}
use Rattle.curve_terms.specs.declared.terms.Helper.{Helper}
use Rattle.desk_terms.specs.declared.terms.Terms.TheVariants.{Quote, Derived, Handle, Curve, Implied, Index, Engine, Stock, Composite, Flows}
use Rattle.desk_terms.specs.declared.terms.HandleKind as handle
use Rattle.flow_terms.specs.declared.flows.FlowTerms.{FlowTerms}
use Rattle.desk_terms.specs.declared.value.Input as input
use Rattle.desk_terms.specs.declared.cause.Cause.{Cause}
use Rattle.desk_terms.specs.declared.cause.Cause.TheVariants.{TooLarge}
use Rattle.desk_terms.specs.Terms.{inputs_of, helper_references, part_references, moves}
use Rattle.flow_terms.specs.Flows.{is_expired, needs_forecast}
use Rattle.desk_terms.specs.Reading.{Reading, IndexReading}
use Rattle.desk_model.specs.declared.entry.Entry.{Entry}
use Rattle.desk_model.specs.declared.entry.Entry.TheVariants.{Gives, Needs, Refuses}
use Rattle.desk_model.specs.Market.{Market, terms_at, IsSame, role_of, is_forwarding, is_forwarder, named, edges_of, edges}
use Rattle.desk_model.specs.Uses.{derived_entry, given, input_by, input_at, index_in, index_at, fixings_in, forecast_entries, engine_entries, helper_entries, member_entries, uses_of, uses, needed, needs, reading_at}
use Rattle.desk_model.specs.Fresh.{reading_over}
use Rattle.desk_model.proofs.Edges.{input_edge, today_edge}

-- x is near o
abbrev pub Near : Market → ℕ → ℕ → Type 0
Near market x o = Meets (edges market) (is_forwarder market) x o

-- what a forwarder gives depends on what its edges give
given_same : (f g : ℕ → Entry) (o : ℕ) (terms : Option Terms)
    → (is_forwarding (role_of terms) ≡ true → (x : ℕ) → Among x (edges_of terms) → f x ≡ g x)
    → given f o terms ≡ given g o terms
given_same f g o None same = refl
given_same f g o (Some (Quote None)) same = refl
given_same f g o (Some (Quote (Some rate))) same = refl
given_same f g o (Some (Derived minus first second)) same =
    let edge = input_edge (Derived minus first second) in
    ap (λ e. derived_entry o minus e (f second)) (same refl first (edge first (inl refl)))
    ∙ ap (λ e. derived_entry o minus (g first) e) (same refl second (edge second (inr (inl refl))))
given_same f g o (Some (Handle kind None)) same = refl
given_same f g o (Some (Handle handle.TheVariants.Quote (Some target))) same = same refl target (inl refl)
given_same f g o (Some (Handle handle.TheVariants.Curve (Some target))) same = same refl target (inl refl)
given_same f g o (Some (Index terms fixings)) same = same refl terms.curve (input_edge (Index terms fixings) terms.curve (inl refl))
given_same f g o (Some (Engine curve)) same = same refl curve (inl refl)
given_same f g o (Some (Curve terms)) same = refl
given_same f g o (Some (Implied curve reference)) same = refl
given_same f g o (Some (Stock quote)) same = refl
given_same f g o (Some (Composite parts)) same = refl
given_same f g o (Some (Flows flows engine)) same = refl

-- An input is the same in two markets that hold the same at it and at all that is near it, if it is a forwarder; and no
-- more edges are followed than its rank.
pub input_same : (m n : Market) (rank : ℕ → ℕ) → Falls (edges m) rank → (i k o : ℕ) → rank o < i → rank o < k
    → IsSame m n o
    → (is_forwarder m o ≡ true → (x : ℕ) → Near m x o → IsSame m n x) → input_by m i o ≡ input_by n k o
unfolding input_by
input_same m n rank falls zero k o p q here near = absurd (omega arith)
input_same m n rank falls (suc i) zero o p q here near = absurd (omega arith)
input_same m n rank falls (suc i) (suc k) o p q here near =
    given_same (input_by m i) (input_by n k) o (terms_at m o) (λ forwards x among.
    let fall = falls o x among in
    input_same m n rank falls i k x (omega arith) (omega arith) (near forwards x (meets_next (edges m) (is_forwarder m) x o among)) (λ passes y meets. near forwards y (beyond among passes meets)))
    ∙ ap (given (input_by n k) o) (sym here.terms)

-- the objects that flows name
pub flows_engine : (flows : FlowTerms) (e : ℕ) → Among e (edges_of (Some (Flows flows (Some e))))
flows_engine flows e = input_edge (Flows flows (Some e)) e (inl refl)

index_named : (flows : FlowTerms) (engine : Option ℕ) (x : ℕ) → flows.index ≡ Some x
    → Among x (named (inputs_of (Flows flows engine)))
index_named flows engine x is = by_index flows.index engine is
  where
    by_index : (index engine : Option ℕ) → index ≡ Some x
        → Among x (named (inputs_of (Flows (record flows { index = index }) engine)))
    by_index None engine is = absurd (cc)
    by_index (Some y) None is = inl (some_same y is)
      where
        some_same : (y : ℕ) → Some y ≡ Some x → x ≡ y
        some_same y is = cc
    by_index (Some y) (Some e) is = inr (inl (some_same y is))
      where
        some_same : (y : ℕ) → Some y ≡ Some x → x ≡ y
        some_same y is = cc

pub flows_index : (flows : FlowTerms) (engine : Option ℕ) (x : ℕ) → flows.index ≡ Some x
    → Among x (edges_of (Some (Flows flows engine)))
flows_index flows engine x is = input_edge (Flows flows engine) x (index_named flows engine x is)

helpers_same : (f g : ℕ → Entry) (helpers : List Helper)
    → ((x : ℕ) → Among x (named (helper_references helpers)) → f x ≡ g x)
    → helper_entries f helpers ≡ helper_entries g helpers
helpers_same f g [] same = refl
helpers_same f g (helper ∷ helpers) same = ap (λ (e : Entry). e ∷ helper_entries f helpers) (same helper.quote (inl refl))
    ∙ ap (λ (l : List Entry). g helper.quote ∷ l) (helpers_same f g helpers (λ x among. same x (inr among)))

-- what a price takes depends on what the edges give, on the day, and on the terms of the edges
uses_of_same : (m n : Market) (f g : ℕ → Entry) (o : ℕ) (terms : Option Terms)
    → ((x : ℕ) → Among x (edges_of terms) → (f x ≡ g x) × IsSame m n x) → uses_of f m o terms ≡ uses_of g n o terms
uses_of_same m n f g o None same = refl
uses_of_same m n f g o (Some (Quote value)) same = refl
uses_of_same m n f g o (Some (Derived minus first second)) same = refl
uses_of_same m n f g o (Some (Handle kind target)) same = refl
uses_of_same m n f g o (Some (Index terms fixings)) same = refl
uses_of_same m n f g o (Some (Engine curve)) same = refl
uses_of_same m n f g o (Some (Curve terms)) same = helpers_same f g terms.helpers (λ x among. (same x (input_edge (Curve terms) x among)).0)
uses_of_same m n f g o (Some (Implied curve reference)) same = ap (λ e. e ∷ []) (same curve (inl refl)).0
uses_of_same m n f g o (Some (Stock quote)) same = ap (λ e. e ∷ []) (same quote (inl refl)).0
uses_of_same m n f g o (Some (Composite parts)) same = refl
uses_of_same m n f g o (Some (Flows flows engine)) same =
    let day = (same 0 (today_edge (Flows flows engine) refl)).1.day refl in
    ap (λ (b : Bool). if b then [] else engine_entries f o engine (forecast_entries f m flows.flows flows.index)) (ap (is_expired flows.flows) (sym day))
    ∙ ap (λ (l : List Entry). if is_expired flows.flows n.today then [] else l) (by_engine engine (λ e is. (same e (by_some engine e is)).0) (by_index flows.index (λ x is. same x (flows_index flows engine x is)) day))
  where
    by_some : (engine : Option ℕ) (e : ℕ) → engine ≡ Some e → Among e (edges_of (Some (Flows flows engine)))
    by_some engine e is = subst (λ (i : Option ℕ). Among e (edges_of (Some (Flows flows i)))) (sym is) (flows_engine flows e)

    by_index : (index : Option ℕ) → ((x : ℕ) → index ≡ Some x → (f x ≡ g x) × IsSame m n x) → n.today ≡ m.today
        → forecast_entries f m flows.flows index ≡ forecast_entries g n flows.flows index
    by_index None each day = refl
    by_index (Some x) each day =
        let at = each x refl in
        ap (λ (e : Entry). if needs_forecast flows.flows (fixings_in (index_in x (terms_at m x))) m.today then e ∷ [] else []) at.0
        ∙ ap (λ (t : Option Terms). if needs_forecast flows.flows (fixings_in (index_in x t)) m.today then g x ∷ [] else []) (sym at.1.terms)
        ∙ ap (λ (d : ℤ). if needs_forecast flows.flows (fixings_in (index_in x (terms_at n x))) d then g x ∷ [] else []) (sym day)

    by_engine : {l k : List Entry} (engine : Option ℕ) → ((e : ℕ) → engine ≡ Some e → f e ≡ g e) → l ≡ k
        → engine_entries f o engine l ≡ engine_entries g o engine k
    by_engine None each is = refl
    by_engine {l = l} (Some e) each is = ap (λ (i : Entry). i ∷ l) (each e refl) ∙ ap (λ (l : List Entry). g e ∷ l) is

-- and so does its reading
reading_of_same : (m n : Market) (o : ℕ) (terms : Terms) (inputs : List input.Input)
    → ((x : ℕ) → Among x (edges_of (Some terms)) → IsSame m n x)
    → reading_at n o terms inputs ≡ reading_at m o terms inputs
reading_of_same m n o (Quote value) inputs same = refl
reading_of_same m n o (Derived minus first second) inputs same = refl
reading_of_same m n o (Handle handle.TheVariants.Quote target) inputs same = refl
reading_of_same m n o (Handle handle.TheVariants.Curve target) inputs same = refl
reading_of_same m n o (Index terms fixings) inputs same = refl
reading_of_same m n o (Engine curve) inputs same = refl
reading_of_same m n o (Curve terms) inputs same = ap (λ (d : Option ℤ). record (reading_at n o (Curve terms) inputs) { today = d }) (day_of_start (moves terms.start) refl)
  where
    day_of_start : (b : Bool) → moves terms.start ≡ b → (if b then Some n.today else None) ≡ (if b then Some m.today else None)
    day_of_start true is = ap (λ (d : ℤ). Some d) ((same 0 (today_edge (Curve terms) is)).day refl)
    day_of_start false is = refl
reading_of_same m n o (Implied curve reference) inputs same = refl
reading_of_same m n o (Stock quote) inputs same = refl
reading_of_same m n o (Composite parts) inputs same = refl
reading_of_same m n o (Flows flows engine) inputs same =
    ap (λ (d : ℤ). record (reading_at n o (Flows flows engine) inputs) { today = Some d }) ((same 0 (today_edge (Flows flows engine) refl)).day refl)
    ∙ ap (λ (i : Option IndexReading). record (reading_at m o (Flows flows engine) inputs) { index = i }) (by_index flows.index (λ x is. (same x (flows_index flows engine x is)).terms))
  where
    by_index : (index : Option ℕ) → ((x : ℕ) → index ≡ Some x → terms_at n x ≡ terms_at m x)
        → index_at n index ≡ index_at m index
    by_index None each = refl
    by_index (Some x) each = ap (index_in x) (each x refl)

-- LOCALITY: where two markets hold the same at o and at all that is near o, o uses the same in both.
pub uses_same : (m n : Market) (rank : ℕ → ℕ) → Falls (edges m) rank → ((x : ℕ) → rank x < suc (length m.objects)) → length m.objects ≤ length n.objects → (o : ℕ) → IsSame m n o
    → ((x : ℕ) → Near m x o → IsSame m n x) → uses n o ≡ uses m o
unfolding input_at
uses_same m n rank falls small longer o here near =
    ap (uses_of (input_at n) n o) here.terms
    ∙ sym (uses_of_same m n (input_at m) (input_at n) o (terms_at m o) (λ x among.
    let low = small x in
    let same = near x (meets_next (edges m) (is_forwarder m) x o among) in
    (input_same m n rank falls (suc (length m.objects)) (suc (length n.objects)) x low (omega arith) same (λ passes y meets. near y (beyond among passes meets)), same)))

abbrev reading_ok : Reading → Result Reading Cause
reading_ok reading = Ok reading

pub reading_same : (m n : Market) (o : ℕ) (terms : Terms) (inputs : List input.Input) → terms_at m o ≡ Some terms
    → ((x : ℕ) → Near m x o → IsSame m n x) → reading_at n o terms inputs ≡ reading_at m o terms inputs
reading_same m n o terms inputs is near = reading_of_same m n o terms inputs (λ x among. near x (meets_next (edges m) (is_forwarder m) x o (subst (λ (t : Option Terms). Among x (edges_of t)) (sym is) among)))

-- the reading over the same inputs is the same
pub over_same : (m n : Market) (o : ℕ) → IsSame m n o → ((x : ℕ) → Near m x o → IsSame m n x)
    → (r : Result (List input.Input) Cause) → reading_over n o (terms_at n o) r ≡ reading_over m o (terms_at m o) r
over_same m n o here near r = ap (λ (t : Option Terms). reading_over n o t r) here.terms
    ∙ by_terms (terms_at m o) refl r
  where
    by_terms : (terms : Option Terms) → terms_at m o ≡ terms → (r : Result (List input.Input) Cause)
        → reading_over n o terms r ≡ reading_over m o terms r
    by_terms None is (Ok inputs) = refl
    by_terms None is (Err cause) = refl
    by_terms (Some terms) is (Ok inputs) = ap reading_ok (reading_same m n o terms inputs is near)
    by_terms (Some terms) is (Err cause) = refl

-- entries with one more in front
pub needed_cons : (y : ℕ) (e : Entry) (entries : List Entry) → Among y (needed (e ∷ entries))
    → (e ≡ Needs y) ⊎ Among y (needed entries)
needed_cons y (Gives rate) entries among = inr among
needed_cons y (Needs x) entries (inl same) = inl (ap Needs (sym same))
needed_cons y (Needs x) entries (inr among) = inr among
needed_cons y (Refuses cause) entries among = inr among

needed_members : (y : ℕ) (parts : List Part) → Among y (needed (member_entries parts))
    → Among y (named (part_references parts))
needed_members y [] among = among
needed_members y (part ∷ parts) (inl same) = inl same
needed_members y (part ∷ parts) (inr among) = inr (needed_members y parts among)

-- an object that a price needs is an edge, or an edge gives it
abbrev Comes : (ℕ → Entry) → List ℕ → ℕ → Type 0
Comes read reads y = Among y reads ⊎ ((x : ℕ) × Among x reads × (read x ≡ Needs y))

comes_one : (read : ℕ → Entry) (reads : List ℕ) (x y : ℕ) → Among x reads → Among y (needed (read x ∷ []))
    → Comes read reads y
comes_one read reads x y is among = elim (needed_cons y (read x) [] among) [ inl e ↦ inr (x, is, e) | inr none ↦ absurd none ]

needed_helpers : (read : ℕ → Entry) (y : ℕ) (helpers : List Helper) → Among y (needed (helper_entries read helpers))
    → (x : ℕ) × Among x (named (helper_references helpers)) × (read x ≡ Needs y)
needed_helpers read y [] among = absurd among
needed_helpers read y (helper ∷ helpers) among = elim (needed_cons y (read helper.quote) (helper_entries read helpers) among) [
  | inl is ↦ (helper.quote, inl refl, is)
  | inr more ↦ let h = needed_helpers read y helpers more in (h.0, inr h.1, h.2)
]

needed_comes : (read : ℕ → Entry) (market : Market) (o y : ℕ) (terms : Option Terms)
    → Among y (needed (uses_of read market o terms)) → Comes read (edges_of terms) y
needed_comes read market o y None among = absurd among
needed_comes read market o y (Some (Quote value)) among = absurd among
needed_comes read market o y (Some (Derived minus first second)) among = absurd among
needed_comes read market o y (Some (Handle kind target)) among = absurd among
needed_comes read market o y (Some (Index terms fixings)) among = absurd among
needed_comes read market o y (Some (Engine curve)) among = absurd among
needed_comes read market o y (Some (Curve terms)) among = let h = needed_helpers read y terms.helpers among in inr (h.0, input_edge (Curve terms) h.0 h.1, h.2)
needed_comes read market o y (Some (Implied curve reference)) among = comes_one read (edges_of (Some (Implied curve reference))) curve y (inl refl) among
needed_comes read market o y (Some (Stock quote)) among = comes_one read (edges_of (Some (Stock quote))) quote y (inl refl) among
needed_comes read market o y (Some (Composite parts)) among = inl (input_edge (Composite parts) y (needed_members y parts among))
needed_comes read market o y (Some (Flows flows engine)) among = by_day (is_expired flows.flows market.today) among
  where
    by_need : (reads : List ℕ) (b : Bool) (x : ℕ) → Among x reads → Among y (needed (if b then read x ∷ [] else []))
        → Comes read reads y
    by_need reads true x is among = comes_one read reads x y is among
    by_need reads false x is among = absurd among

    by_index : (reads : List ℕ) (index : Option ℕ) → ((x : ℕ) → index ≡ Some x → Among x reads)
        → Among y (needed (forecast_entries read market flows.flows index)) → Comes read reads y
    by_index reads None on among = absurd among
    by_index reads (Some x) on among = by_need reads (needs_forecast flows.flows (fixings_in (index_in x (terms_at market x))) market.today) x (on x refl) among

    by_engine : (engine : Option ℕ)
        → Among y (needed (engine_entries read o engine (forecast_entries read market flows.flows flows.index)))
        → Comes read (edges_of (Some (Flows flows engine))) y
    by_engine None among = absurd among
    by_engine (Some e) among = elim (needed_cons y (read e) (forecast_entries read market flows.flows flows.index) among) [
      | inl is ↦ inr (e, flows_engine flows e, is)
      | inr more ↦ by_index (edges_of (Some (Flows flows (Some e)))) flows.index (λ x i. flows_index flows (Some e) x i) more
    ]

    by_day : (b : Bool)
        → Among y (needed (if b then [] else engine_entries read o engine (forecast_entries read market flows.flows flows.index)))
        → Comes read (edges_of (Some (Flows flows engine))) y
    by_day true among = absurd among
    by_day false among = by_engine engine among

-- entries that are no object
derived_no_need : (o : ℕ) (minus : Bool) (y : ℕ) (e f : Entry) → derived_entry o minus e f ≡ Needs y → ⊥
derived_no_need o minus y (Refuses cause) f is = cc
derived_no_need o minus y (Needs x) f is = cc
derived_no_need o minus y (Gives a) (Refuses cause) is = cc
derived_no_need o minus y (Gives a) (Needs x) is = cc
derived_no_need o minus y (Gives a) (Gives b) is = by_range _ _ is
  where
    by_range : (b : Bool) (rate : ℤ)
        → (if b then Gives rate else Refuses (TooLarge o)) ≡ Needs y → ⊥
    by_range true rate is = cc
    by_range false rate is = cc

needs_self : (o y : ℕ) → Needs o ≡ Needs y → y ≡ o
needs_self o y is = cc

-- an input that is an object is itself, or is given by an edge of a forwarder
given_need : (read : ℕ → Entry) (o y : ℕ) (terms : Option Terms) → given read o terms ≡ Needs y
    → (y ≡ o) ⊎ ((is_forwarding (role_of terms) ≡ true) × ((x : ℕ) × Among x (edges_of terms) × (read x ≡ Needs y)))
given_need read o y None is = absurd (cc)
given_need read o y (Some (Quote None)) is = absurd (cc)
given_need read o y (Some (Quote (Some rate))) is = absurd (cc)
given_need read o y (Some (Derived minus first second)) is = absurd (derived_no_need o minus y (read first) (read second) is)
given_need read o y (Some (Handle kind None)) is = absurd (cc)
given_need read o y (Some (Handle handle.TheVariants.Quote (Some target))) is = inr (refl, (target, inl refl, is))
given_need read o y (Some (Handle handle.TheVariants.Curve (Some target))) is = inr (refl, (target, inl refl, is))
given_need read o y (Some (Index terms fixings)) is = inr (refl, (terms.curve, input_edge (Index terms fixings) terms.curve (inl refl), is))
given_need read o y (Some (Engine curve)) is = inr (refl, (curve, inl refl, is))
given_need read o y (Some (Curve terms)) is = inl (needs_self o y is)
given_need read o y (Some (Implied curve reference)) is = inl (needs_self o y is)
given_need read o y (Some (Stock quote)) is = inl (needs_self o y is)
given_need read o y (Some (Composite parts)) is = inl (needs_self o y is)
given_need read o y (Some (Flows flows engine)) is = inl (needs_self o y is)

pub input_near : (m : Market) (n o y : ℕ) → input_by m n o ≡ Needs y
    → (y ≡ o) ⊎ ((is_forwarder m o ≡ true) × Near m y o)
unfolding input_by
input_near m zero o y is = absurd (cc)
input_near m (suc n) o y is = elim (given_need (input_by m n) o y (terms_at m o) is) [
  | inl same ↦ inl same
  | inr g ↦ inr (
    g.0,
    elim (input_near m n g.1.0 y g.1.2) [
      | inl same ↦ subst (λ (z : ℕ). Near m z o) (sym same) (meets_next (edges m) (is_forwarder m) g.1.0 o g.1.1)
      | inr deep ↦ beyond g.1.1 deep.0 deep.1
    ],
  )
]

-- what a price needs is near
pub needs_near : (m : Market) (o y : ℕ) → Among y (needs m o) → Near m y o
unfolding input_at
needs_near m o y among = elim (needed_comes (input_at m) m o y (terms_at m o) among) [
  | inl edge ↦ meets_next (edges m) (is_forwarder m) y o edge
  | inr c ↦ elim (input_near m (suc (length m.objects)) c.0 y c.2) [
    | inl same ↦ subst (λ (z : ℕ). Near m z o) (sym same) (meets_next (edges m) (is_forwarder m) c.0 o c.1)
    | inr deep ↦ beyond c.1 deep.0 deep.1
  ]
]

-- and has a lower rank
pub needs_fall : (m : Market) (rank : ℕ → ℕ) → Falls (edges m) rank → Falls (needs m) rank
needs_fall m rank falls o y among =
    let f = below_falls (edges m) (λ z. z == y) (is_forwarder m) rank falls o (needs_near m o y among) in
    subst (λ (z : ℕ). rank z < rank o) (eqb-true f.0 y f.1) f.2
