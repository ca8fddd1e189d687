-- A visit ends with what is seen, and what it computes is closed: each object that got a value rests on objects that are
-- held, current or got a value before it.
use Rattle.std.proofs.Common.{◌≡◌, ◌⊎◌, inl, inr, ℕ, zero, suc, ◌<◌, Bool, true, false, List, [], ◌∷◌, ◌++◌, length, Option, Some, None, Result, Ok, Err, refl, sym, ◌∙◌, ap, subst, arith}
use Rattle.std.specs.Prelude.{◌||◌, ◌&&◌, ◌==◌, is_ok, is_some, if◌then◌else◌}
use Rattle.std.proofs.lemmas.Bool.{cases_Bool, or_cases, or_left, or_right, or_parts, and_parts, eqb-true, eq-eqb}
use Rattle.walks.specs.Walk.{Among, Falls}
use Rattle.desk_terms.specs.declared.terms.Terms.{Terms}
use Rattle.desk_terms.specs.declared.value.Value.{Value}
use Rattle.desk_terms.specs.declared.value.Input as input
use Rattle.desk_terms.specs.declared.cause.Cause.{Cause}
use Rattle.desk_terms.specs.Reading.{Outcome, Calc}
use Rattle.desk_model.specs.declared.entry.Entry.{Entry}
use Rattle.desk_model.specs.Market.{Market, terms_at, edges}
use Rattle.desk_model.specs.Uses.{uses, needed, needs}
use Rattle.desk_model.specs.declared.entry.Entry.TheVariants.{Gives, Needs, Refuses}
use Rattle.desk_model.specs.Fresh.{input_of, and_inputs, and_value, inputs_by, reading_over, priced}
use Rattle.desk_model.specs.State.{State, kept_at, held_outcome, seen_outcome, now}
use Rattle.desk_model.specs.Links.{IsLinked}
use Rattle.desk_model.specs.Visit.{Visit, Walk, value_in, or_value, value_among, has_value, after_visit, settle_all, settle, settle_walk, is_idle, visit_by, runs}
use Rattle.desk_model.proofs.Locality.{needs_fall}
use Rattle.desk_model.proofs.Bounds.{ranks_of}
use Rattle.desk_model.proofs.Shown.{seen_free, or_false}

-- an outcome is a value or a refusal
pub cases_outcome : {A : Type 0} (r : Result A Cause) → ((v : A) × (r ≡ Ok v)) ⊎ ((c : Cause) × (r ≡ Err c))
cases_outcome (Ok v) = inl (v, refl)
cases_outcome (Err c) = inr (c, refl)

-- the refusal among inputs
abbrev pub refusal_of : Result (List input.Input) Cause → Option Cause
refusal_of (Ok inputs) = None
refusal_of (Err cause) = Some cause

refusal_and : (i : input.Input) (r : Result (List input.Input) Cause) → refusal_of (and_inputs i r) ≡ refusal_of r
refusal_and i (Ok inputs) = refl
refusal_and i (Err cause) = refl

module _ (visit : List (ℕ × Outcome) → ℕ → Visit) (f : ℕ → Outcome) (ends : (calls : List (ℕ × Outcome)) (x : ℕ) → (visit calls x).outcome ≡ f x) where
  -- a walk is refused exactly where the inputs are
  pub walk_refusal : (calls : List (ℕ × Outcome)) (entries : List Entry)
      → (settle_all visit calls entries).refusal ≡ refusal_of (inputs_by f entries)
  walk_refusal calls [] = refl
  walk_refusal calls (Gives i ∷ entries) = walk_refusal calls entries ∙ sym (refusal_and (input.TheVariants.Rate i) (inputs_by f entries))
  walk_refusal calls (Needs x ∷ entries) =
      ap (λ (r : Outcome). (after_visit (visit calls x).calls r (λ later. settle_all visit later entries)).refusal) (ends calls x)
      ∙ by_outcome (f x) (visit calls x).calls (walk_refusal (visit calls x).calls entries)
    where
      by_outcome : (r : Outcome) (later : List (ℕ × Outcome))
          → (settle_all visit later entries).refusal ≡ refusal_of (inputs_by f entries)
          → (after_visit later r (λ later. settle_all visit later entries)).refusal ≡ refusal_of (and_value r (inputs_by f entries))
      by_outcome (Ok value) later rest = rest ∙ sym (refusal_and (input_of value) (inputs_by f entries))
      by_outcome (Err cause) later rest = refl
  walk_refusal calls (Refuses cause ∷ entries) = refl

priced_refused : (calc : Calc) (m : Market) (o : ℕ) (terms : Option Terms) (r : Result (List input.Input) Cause) (cause : Cause)
    → refusal_of r ≡ Some cause → priced calc (reading_over m o terms r) ≡ Err cause
priced_refused calc m o terms (Ok inputs) cause e = absurd (cc)
priced_refused calc m o None (Err given) cause e = let same : given ≡ cause = cc in ap Err same
priced_refused calc m o (Some t) (Err given) cause e = let same : given ≡ cause = cc in ap Err same

pub none_of : {A : Type 0} (o : Option A) → is_some o ≡ false → o ≡ None
none_of None e = refl
none_of (Some x) e = absurd (cc)

-- what is not idle is not held, not current, and got no value yet
pub not_idle : (s : State) (calls : List (ℕ × Outcome)) (o : ℕ) → is_idle s calls o ≡ false
    → (held_outcome s o ≡ None) × ((kept_at s o).current ≡ false) × (has_value calls o ≡ false)
not_idle s calls o e = let a = or_parts (is_some (held_outcome s o)) _ e in let b = or_parts (kept_at s o).current _ a.1 in (none_of (held_outcome s o) a.0, b.0, b.1)

module _ (calc : Calc) (s : State) (links : IsLinked s.market) where
  -- a visit ends with what is seen
  pub visit_outcome : (n : ℕ) (calls : List (ℕ × Outcome)) (o : ℕ) → (visit_by calc s n calls o).outcome ≡ seen_outcome calc s o
  unfolding visit_by now
  visit_outcome zero calls o = refl
  visit_outcome (suc n) calls o = by_idle (is_idle s calls o) refl (walk_refusal (visit_by calc s n) (seen_outcome calc s) (visit_outcome n) calls (uses s.market o))
    where
      walked : Walk
      walked = settle_all (visit_by calc s n) calls (uses s.market o)

      by_refusal : (refusal : Option Cause) → refusal ≡ refusal_of (inputs_by (seen_outcome calc s) (uses s.market o))
          → held_outcome s o ≡ None → (settle (now calc s o) o walked.calls refusal).outcome ≡ seen_outcome calc s o
      by_refusal None is free = sym (seen_free calc s links o free)
      by_refusal (Some cause) is free = sym (seen_free calc s links o free ∙ priced_refused calc s.market o (terms_at s.market o) (inputs_by (seen_outcome calc s) (uses s.market o)) cause (sym is))

      by_idle : (b : Bool) → is_idle s calls o ≡ b
          → walked.refusal ≡ refusal_of (inputs_by (seen_outcome calc s) (uses s.market o))
          → (if b then record { calls = calls; outcome = seen_outcome calc s o } else settle_walk (now calc s o) o walked).outcome ≡ seen_outcome calc s o
      by_idle true is refusal = refl
      by_idle false is refusal = by_refusal walked.refusal refusal (not_idle s calls o is).0

-- what got a value keeps it
abbrev pub Grows : List (ℕ × Outcome) → List (ℕ × Outcome) → Type 0
Grows calls later = (x : ℕ) (value : Value) → value_among calls x ≡ Some value → value_among later x ≡ Some value

some_value : (v : Option Value) → is_some v ≡ true → (w : Value) × (v ≡ Some w)
some_value None e = absurd (cc)
some_value (Some w) e = (w, refl)

-- the value of an object that got one
pub value_of_call : (calls : List (ℕ × Outcome)) (x : ℕ) → has_value calls x ≡ true
    → (value : Value) × (value_among calls x ≡ Some value)
value_of_call calls x has = some_value (value_among calls x) has

pub grows_has : (calls later : List (ℕ × Outcome)) (x : ℕ) → Grows calls later → has_value calls x ≡ true
    → has_value later x ≡ true
grows_has calls later x grows has = let v = value_of_call calls x has in ap is_some (grows x v.0 v.1)

-- an object that got a value in this ask: it was not held nor current, and rests on what is idle
pub record RestsOn (calc : Calc) (s : State) (calls : List (ℕ × Outcome)) (x : ℕ) : Type 0 where
  pub value : Value
  pub among : value_among calls x ≡ Some value
  pub seen : seen_outcome calc s x ≡ Ok value
  pub free : held_outcome s x ≡ None
  pub stale : (kept_at s x).current ≡ false
  pub needs : (y : ℕ) → Among y (needs s.market x) → is_idle s calls y ≡ true

abbrev pub IsClosed : Calc → State → List (ℕ × Outcome) → Type 0
IsClosed calc s calls = (x : ℕ) → has_value calls x ≡ true → RestsOn calc s calls x

pub idle_grows : (s : State) (calls later : List (ℕ × Outcome)) (o : ℕ) → Grows calls later → is_idle s calls o ≡ true
    → is_idle s later o ≡ true
idle_grows s calls later o grows e = elim (or_cases (is_some (held_outcome s o)) _ e) [
  | inl is ↦ or_left _ _ is
  | inr more ↦ elim (or_cases (kept_at s o).current _ more) [
    | inl is ↦ or_right (is_some (held_outcome s o)) _ (or_left _ _ is)
    | inr is ↦ or_right (is_some (held_outcome s o)) _ (or_right (kept_at s o).current _ (grows_has calls later o grows is))
  ]
]

rests_grows : (calc : Calc) (s : State) (calls later : List (ℕ × Outcome)) (x : ℕ) → Grows calls later
    → RestsOn calc s calls x → RestsOn calc s later x
rests_grows calc s calls later x grows r = record { value = r.value; among = grows x r.value r.among; seen = r.seen; free = r.free; stale = r.stale; needs = λ y among. idle_grows s calls later y grows (r.needs y among) }

-- one call more
pub value_more : (calls : List (ℕ × Outcome)) (o x : ℕ) (r : Outcome)
    → value_among (calls ++ (o, r) ∷ []) x ≡ or_value (value_among calls x) (if o == x then value_in r else None)
value_more [] o x r = or_none (if o == x then value_in r else None)
  where
    or_none : (v : Option Value) → or_value v None ≡ v
    or_none None = refl
    or_none (Some value) = refl
value_more (call ∷ calls) o x r = ap (or_value (if call.0 == x then value_in call.1 else None)) (value_more calls o x r)
    ∙ or_assoc (if call.0 == x then value_in call.1 else None) (value_among calls x) (if o == x then value_in r else None)
  where
    or_assoc : (a b c : Option Value) → or_value a (or_value b c) ≡ or_value (or_value a b) c
    or_assoc (Some value) b c = refl
    or_assoc None b c = refl

pub has_more : (calls : List (ℕ × Outcome)) (o x : ℕ) (r : Outcome)
    → has_value (calls ++ (o, r) ∷ []) x ≡ (has_value calls x || (is_ok r && (o == x)))
has_more calls o x r = ap is_some (value_more calls o x r) ∙ by_first (value_among calls x)
  where
    by_object : (b : Bool) (r : Outcome) → is_some (if b then value_in r else None) ≡ (is_ok r && b)
    by_object true (Ok value) = refl
    by_object true (Err cause) = refl
    by_object false (Ok value) = refl
    by_object false (Err cause) = refl

    by_first : (v : Option Value)
        → is_some (or_value v (if o == x then value_in r else None)) ≡ (is_some v || (is_ok r && (o == x)))
    by_first (Some value) = refl
    by_first None = by_object (o == x) r

-- how a visit goes on from calls that are closed
pub record GoesOn (calc : Calc) (s : State) (calls : List (ℕ × Outcome)) (visit : Visit) (o : ℕ) : Type 0 where
  pub grows : Grows calls visit.calls
  pub closed : IsClosed calc s visit.calls
  pub idle : (value : Value) → visit.outcome ≡ Ok value → is_idle s visit.calls o ≡ true

pub record WalksOn (calc : Calc) (s : State) (calls : List (ℕ × Outcome)) (walk : Walk) (entries : List Entry) : Type 0 where
  pub grows : Grows calls walk.calls
  pub closed : IsClosed calc s walk.calls
  pub idle : walk.refusal ≡ None → (y : ℕ) → Among y (needed entries) → is_idle s walk.calls y ≡ true

module _ (calc : Calc) (s : State) (visit : List (ℕ × Outcome) → ℕ → Visit) where
  pub walks_on : (calls : List (ℕ × Outcome)) (entries : List Entry) → IsClosed calc s calls
      → ((x : ℕ) → Among x (needed entries) → (calls : List (ℕ × Outcome)) → IsClosed calc s calls → GoesOn calc s calls (visit calls x) x)
      → WalksOn calc s calls (settle_all visit calls entries) entries
  walks_on calls [] closed each = record { grows = λ x value e. e; closed = closed; idle = λ none y among. absurd among }
  walks_on calls (Gives i ∷ entries) closed each = let w = walks_on calls entries closed each in record { grows = w.grows; closed = w.closed; idle = w.idle }
  walks_on calls (Refuses cause ∷ entries) closed each = record { grows = λ x value e. e; closed = closed; idle = λ none y among. absurd (cc) }
  walks_on calls (Needs x ∷ entries) closed each = by_outcome (visit calls x).outcome refl (each x (inl refl) calls closed) (walks_on (visit calls x).calls entries (each x (inl refl) calls closed).closed (λ y among. each y (inr among)))
    where
      by_outcome : (r : Outcome) → (visit calls x).outcome ≡ r → GoesOn calc s calls (visit calls x) x
          → WalksOn calc s (visit calls x).calls (settle_all visit (visit calls x).calls entries) entries
          → WalksOn calc s calls (after_visit (visit calls x).calls r (λ later. settle_all visit later entries)) (Needs x ∷ entries)
      by_outcome (Ok value) is g w = record {
        grows = λ y value e. w.grows y value (g.grows y value e);
        closed = w.closed;
        idle = λ none y among. by_place none y among;
      }
        where
          by_place : (settle_all visit (visit calls x).calls entries).refusal ≡ None → (y : ℕ)
              → Among y (x ∷ needed entries) → is_idle s (settle_all visit (visit calls x).calls entries).calls y ≡ true
          by_place none y (inl same) = idle_grows s (visit calls x).calls (settle_all visit (visit calls x).calls entries).calls y w.grows (subst (λ (z : ℕ). is_idle s (visit calls x).calls z ≡ true) (sym same) (g.idle value is))
          by_place none y (inr among) = w.idle none y among
      by_outcome (Err cause) is g w = record { grows = g.grows; closed = g.closed; idle = λ none y among. absurd (cc) }

value_ok : (r : Outcome) → is_ok r ≡ true → (v : Value) × (r ≡ Ok v)
value_ok (Ok v) e = (v, refl)
value_ok (Err c) e = absurd (cc)

ok_value : (r : Outcome) (v : Value) → r ≡ Ok v → is_ok r ≡ true
ok_value r v e = ap is_ok e

pub grows_more : (calls : List (ℕ × Outcome)) (o : ℕ) (r : Outcome) → Grows calls (calls ++ (o, r) ∷ [])
grows_more calls o r x value e = value_more calls o x r
    ∙ ap (λ (v : Option Value). or_value v (if o == x then value_in r else None)) e

pub has_last : (calls : List (ℕ × Outcome)) (o : ℕ) (r : Outcome) → is_ok r ≡ true
    → has_value (calls ++ (o, r) ∷ []) o ≡ true
has_last calls o r is = has_more calls o o r
    ∙ or_right (has_value calls o) _ (ap (λ (c : Bool). c && (o == o)) is ∙ eq-eqb o o refl)

-- the value of the last call, where the object had none before
last_value : (calls : List (ℕ × Outcome)) (o : ℕ) (r : Outcome) (value : Value) → has_value calls o ≡ false
    → r ≡ Ok value → value_among (calls ++ (o, r) ∷ []) o ≡ Some value
last_value calls o r value none is = value_more calls o o r
    ∙ (ap (λ (v : Option Value). or_value v (if o == o then value_in r else None)) (none_of (value_among calls o) none) ∙ (ap (λ (b : Bool). if b then value_in r else None) (eq-eqb o o refl) ∙ ap value_in is))

module _ (calc : Calc) (s : State) (links : IsLinked s.market) where
  -- one object more is computed, after all that it needs
  pub settles_on : (calls : List (ℕ × Outcome)) (o : ℕ) (walk : Walk) → is_idle s calls o ≡ false
      → WalksOn calc s calls walk (uses s.market o) → GoesOn calc s calls (settle_walk (now calc s o) o walk) o
  settles_on calls o walk busy w = by_refusal walk.refusal refl
    where
      closed_more : walk.refusal ≡ None → (r : Outcome) → now calc s o ≡ r → IsClosed calc s (walk.calls ++ (o, r) ∷ [])
      closed_more none r is x e = elim (cases_Bool (has_value walk.calls x)) [
        | inl was ↦ rests_grows calc s walk.calls (walk.calls ++ (o, r) ∷ []) x (grows_more walk.calls o r) (w.closed x was)
        | inr first ↦
            let parts = and_parts (is_ok r) (o == x) (or_false (has_value walk.calls x) _ (sym (has_more walk.calls o x r) ∙ e) first) in
            let v = value_ok r parts.0 in
            let same = eqb-true o x parts.1 in
            let free = not_idle s calls o busy in
            subst (RestsOn calc s (walk.calls ++ (o, r) ∷ [])) same (record {
              value = v.0;
              among = last_value walk.calls o r v.0 (ap (has_value walk.calls) same ∙ first) v.1;
              seen = seen_free calc s links o free.0 ∙ (is ∙ v.1);
              free = free.0;
              stale = free.1;
              needs = λ y among. idle_grows s walk.calls (walk.calls ++ (o, r) ∷ []) y (grows_more walk.calls o r) (w.idle none y among);
            })
      ]

      by_refusal : (refusal : Option Cause) → walk.refusal ≡ refusal
          → GoesOn calc s calls (settle (now calc s o) o walk.calls refusal) o
      by_refusal (Some cause) is = record { grows = w.grows; closed = w.closed; idle = λ value e. absurd (cc) }
      by_refusal None is = record {
        grows = λ x value e. grows_more walk.calls o (now calc s o) x value (w.grows x value e);
        closed = closed_more is (now calc s o) refl;
        idle = λ value e. or_right (is_some (held_outcome s o)) _ (or_right (kept_at s o).current _ (has_last walk.calls o (now calc s o) (ok_value (now calc s o) value e)));
      }

  pub visit_goes : (n o : ℕ) → (ranks_of s.market links).0 o < n → (calls : List (ℕ × Outcome)) → IsClosed calc s calls
      → GoesOn calc s calls (visit_by calc s n calls o) o
  unfolding visit_by
  visit_goes zero o p calls closed = absurd (omega arith)
  visit_goes (suc n) o p calls closed = by_idle (is_idle s calls o) refl (walks_on calc s (visit_by calc s n) calls (uses s.market o) closed
      (λ x among later closed_later. let fall = needs_fall s.market (ranks_of s.market links).0 (ranks_of s.market links).1 o x among in visit_goes n x (omega arith) later closed_later))
    where
      by_idle : (b : Bool) → is_idle s calls o ≡ b
          → WalksOn calc s calls (settle_all (visit_by calc s n) calls (uses s.market o)) (uses s.market o)
          → GoesOn calc s calls (if b then record { calls = calls; outcome = seen_outcome calc s o } else settle_walk (now calc s o) o (settle_all (visit_by calc s n) calls (uses s.market o))) o
      by_idle true is w = record { grows = λ x value e. e; closed = closed; idle = λ value e. is }
      by_idle false is w = settles_on calls o (settle_all (visit_by calc s n) calls (uses s.market o)) is w

  -- what an ask computes is closed
  pub runs_closed : (o : ℕ) → IsClosed calc s (runs calc s o)
  unfolding runs
  runs_closed o = (visit_goes (suc (length s.market.objects)) o ((ranks_of s.market links).2 o) [] (λ x e. absurd (cc))).closed

  -- and the object asked for is among it, or was idle, where it is seen with a value
  pub runs_idle : (o : ℕ) (value : Value) → seen_outcome calc s o ≡ Ok value → is_idle s (runs calc s o) o ≡ true
  unfolding runs
  runs_idle o value is = (visit_goes (suc (length s.market.objects)) o ((ranks_of s.market links).2 o) [] (λ x e. absurd (cc))).idle value (visit_outcome calc s links (suc (length s.market.objects)) [] o ∙ is)

-- how many edges a visit may follow does not matter
walk_same : (f g : List (ℕ × Outcome) → ℕ → Visit) (calls : List (ℕ × Outcome)) (entries : List Entry)
    → ((x : ℕ) → Among x (needed entries) → (calls : List (ℕ × Outcome)) → f calls x ≡ g calls x)
    → settle_all f calls entries ≡ settle_all g calls entries
walk_same f g calls [] same = refl
walk_same f g calls (Gives i ∷ entries) same = walk_same f g calls entries same
walk_same f g calls (Refuses cause ∷ entries) same = refl
walk_same f g calls (Needs x ∷ entries) same =
    by_outcome (f calls x).calls (f calls x).outcome (walk_same f g (f calls x).calls entries (λ y among. same y (inr among)))
    ∙ ap (λ (v : Visit). after_visit v.calls v.outcome (λ later. settle_all g later entries)) (same x (inl refl) calls)
  where
    by_outcome : (later : List (ℕ × Outcome)) (r : Outcome) → settle_all f later entries ≡ settle_all g later entries
        → after_visit later r (λ later. settle_all f later entries) ≡ after_visit later r (λ later. settle_all g later entries)
    by_outcome later (Ok value) e = e
    by_outcome later (Err cause) e = refl

pub visit_steps : (calc : Calc) (s : State) (rank : ℕ → ℕ) → Falls (edges s.market) rank → (n k o : ℕ) → rank o < n
    → rank o < k → (calls : List (ℕ × Outcome)) → visit_by calc s n calls o ≡ visit_by calc s k calls o
unfolding visit_by
visit_steps calc s rank falls zero k o p q calls = absurd (omega arith)
visit_steps calc s rank falls (suc n) zero o p q calls = absurd (omega arith)
visit_steps calc s rank falls (suc n) (suc k) o p q calls =
    ap (λ (w : Walk). if is_idle s calls o then record { calls = calls; outcome = seen_outcome calc s o } else settle_walk (now calc s o) o w)
    (walk_same (visit_by calc s n) (visit_by calc s k) calls (uses s.market o) (λ x among later. let fall = needs_fall s.market rank falls o x among in visit_steps calc s rank falls n k x (omega arith) (omega arith) later))
