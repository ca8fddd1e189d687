-- An ask by a list of objects that are still to be finished: what each step leaves of it.
use Rattle.std.proofs.Common.{◌≡◌, ◌⊎◌, inl, inr, ℕ, zero, suc, ◌<◌, Bool, true, false, List, [], ◌∷◌, length, Option, Some, None, Result, Ok, Err, refl, sym, ◌∙◌, ap, subst, arith}
use Rattle.std.specs.Prelude.{◌||◌, ◌&&◌, ◌==◌, is_ok, if◌then◌else◌}
use Rattle.std.proofs.lemmas.Bool.{ne_eqb}
use Rattle.walks.specs.Walk.{Among, Falls}
use Rattle.desk_terms.specs.declared.value.Value.{Value}
use Rattle.desk_terms.specs.declared.value.Input as input
use Rattle.desk_terms.specs.declared.cause.Cause.{Cause}
use Rattle.desk_terms.specs.Reading.{Outcome, Calc}
use Rattle.desk_model.specs.declared.entry.Next.{Next}
use Rattle.desk_model.specs.declared.entry.Entry.{Entry}
use Rattle.desk_model.specs.Market.{edges}
use Rattle.desk_model.specs.Uses.{uses, needed}
use Rattle.desk_model.specs.declared.entry.Entry.TheVariants.{Gives, Needs, Refuses}
use Rattle.desk_model.specs.Fresh.{input_of, and_inputs, and_value, inputs_by}
use Rattle.desk_model.specs.State.{State, seen_outcome, now}
use Rattle.desk_model.specs.Visit.{Visit, has_value, after_visit, settle_all, settle, settle_walk, is_idle, visit_by}
use Rattle.desk_model.specs.Next.{and_next, and_answer, next_of}
use Rattle.desk_model.specs.declared.entry.Next.TheVariants.{Ready, First, Stops}
use Rattle.desk_model.proofs.Locality.{needs_fall}
use Rattle.desk_model.proofs.Visits.{has_more}

-- how an ask goes on after a visit
abbrev pub then_on : List (ℕ × Outcome) → Outcome → (List (ℕ × Outcome) → Visit) → Visit
then_on calls (Ok value) rest = rest calls
then_on calls (Err cause) rest = record { calls = calls; outcome = Err cause }

-- what is left of an ask of o, where these objects are still to be finished, the first of them first
unfoldable pub finish : Calc → State → ℕ → List ℕ → List (ℕ × Outcome) → Visit
finish calc s o [] calls = record { calls = calls; outcome = seen_outcome calc s o }
finish calc s o (x ∷ xs) calls = then_on (visit_by calc s (suc (length s.market.objects)) calls x).calls (visit_by calc s (suc (length s.market.objects)) calls x).outcome (finish calc s o xs)

-- a visit of an idle object computes nothing
pub idle_visit : (calc : Calc) (s : State) (n : ℕ) (calls : List (ℕ × Outcome)) (x : ℕ) → is_idle s calls x ≡ true
    → visit_by calc s n calls x ≡ record { calls = calls; outcome = seen_outcome calc s x }
unfolding visit_by
idle_visit calc s zero calls x idle = refl
idle_visit calc s (suc n) calls x idle = ap (λ (b : Bool). if b then record { calls = calls; outcome = seen_outcome calc s x } else settle_walk (now calc s x) x (settle_all (visit_by calc s n) calls (uses s.market x))) idle

pub busy_visit : (calc : Calc) (s : State) (n : ℕ) (calls : List (ℕ × Outcome)) (x : ℕ) → is_idle s calls x ≡ false
    → visit_by calc s (suc n) calls x ≡ settle_walk (now calc s x) x (settle_all (visit_by calc s n) calls (uses s.market x))
unfolding visit_by
busy_visit calc s n calls x busy = ap (λ (b : Bool). if b then record { calls = calls; outcome = seen_outcome calc s x } else settle_walk (now calc s x) x (settle_all (visit_by calc s n) calls (uses s.market x))) busy

abbrev inputs_in : Next → Result (List input.Input) Cause
inputs_in (Ready inputs) = Ok inputs
inputs_in (First x) = Ok []
inputs_in (Stops cause) = Err cause

module _ (calc : Calc) (s : State) (n : ℕ) where
  -- the walk over an entry that is idle
  walk_idle : (calls : List (ℕ × Outcome)) (x : ℕ) (value : Value) (entries : List Entry) → is_idle s calls x ≡ true
      → seen_outcome calc s x ≡ Ok value
      → settle_all (visit_by calc s n) calls (Needs x ∷ entries) ≡ settle_all (visit_by calc s n) calls entries
  walk_idle calls x value entries idle is =
      ap (λ (v : Visit). after_visit v.calls v.outcome (λ later. settle_all (visit_by calc s n) later entries)) (idle_visit calc s n calls x idle)
      ∙ ap (λ (r : Outcome). after_visit calls r (λ later. settle_all (visit_by calc s n) later entries)) is

  -- the answers of what is idle are what is seen
  abbrev pub Answers : List (ℕ × Outcome) → (ℕ → Outcome) → List Entry → Type 0
  Answers calls answer entries = (x : ℕ) → Among x (needed entries) → is_idle s calls x ≡ true
      → answer x ≡ seen_outcome calc s x

  -- an entry that is idle after a visit adds nothing to the walk after it
  drop_idle : (v : Visit) (x : ℕ) (entries : List Entry)
      → ((value : Value) → v.outcome ≡ Ok value → (is_idle s v.calls x ≡ true) × ((w : Value) × (seen_outcome calc s x ≡ Ok w)))
      → (r : Outcome) → v.outcome ≡ r
      → after_visit v.calls r (λ later. settle_all (visit_by calc s n) later entries) ≡ after_visit v.calls r (λ later. settle_all (visit_by calc s n) later (Needs x ∷ entries))
  drop_idle v x entries idle (Ok value) is = let i = idle value is in sym (walk_idle v.calls x i.1.0 entries i.0 i.1.1)
  drop_idle v x entries idle (Err cause) is = refl

  first_of : (i : input.Input) (y : ℕ) (next : Next) → and_next i next ≡ First y → next ≡ First y
  first_of i y (Ready inputs) e = absurd (cc)
  first_of i y (First z) e = e
  first_of i y (Stops cause) e = absurd (cc)

  first_answer : (r : Outcome) (y : ℕ) (next : Next) → and_answer r next ≡ First y
      → ((v : Value) × (r ≡ Ok v)) × (next ≡ First y)
  first_answer (Ok v) y next e = ((v, refl), first_of (input_of v) y next e)
  first_answer (Err c) y next e = absurd (cc)

  first_is : (x y : ℕ) → First x ≡ First y → x ≡ y
  first_is x y e = cc

  -- An object that has to be computed first may be visited before the walk begins.
  pub walk_first : (calls : List (ℕ × Outcome)) (answer : ℕ → Outcome) (y : ℕ) (entries : List Entry)
      → Answers calls answer entries → next_of (is_idle s calls) answer entries ≡ First y
      → ((value : Value) → (visit_by calc s n calls y).outcome ≡ Ok value → ((x : ℕ) → is_idle s calls x ≡ true → is_idle s (visit_by calc s n calls y).calls x ≡ true) × (is_idle s (visit_by calc s n calls y).calls y ≡ true) × (seen_outcome calc s y ≡ Ok value))
      → settle_all (visit_by calc s n) calls entries ≡ after_visit (visit_by calc s n calls y).calls (visit_by calc s n calls y).outcome (λ later. settle_all (visit_by calc s n) later entries)
  walk_first calls answer y [] answers is after = absurd (cc)
  walk_first calls answer y (Gives i ∷ entries) answers is after = walk_first calls answer y entries answers (first_of (input.TheVariants.Rate i) y (next_of (is_idle s calls) answer entries) is) after
  walk_first calls answer y (Refuses cause ∷ entries) answers is after = absurd (cc)
  walk_first calls answer y (Needs x ∷ entries) answers is after = by_idle (is_idle s calls x) refl is (λ next. walk_first calls answer y entries (λ z among. answers z (inr among)) next after)
    where
      by_idle : (b : Bool) → is_idle s calls x ≡ b
          → (if b then and_answer (answer x) (next_of (is_idle s calls) answer entries) else First x) ≡ First y
          → (next_of (is_idle s calls) answer entries ≡ First y → settle_all (visit_by calc s n) calls entries ≡ after_visit (visit_by calc s n calls y).calls (visit_by calc s n calls y).outcome (λ later. settle_all (visit_by calc s n) later entries))
          → settle_all (visit_by calc s n) calls (Needs x ∷ entries) ≡ after_visit (visit_by calc s n calls y).calls (visit_by calc s n calls y).outcome (λ later. settle_all (visit_by calc s n) later (Needs x ∷ entries))
      by_idle true idle first more =
          let a = first_answer (answer x) y (next_of (is_idle s calls) answer entries) first in
          let is_seen : seen_outcome calc s x ≡ Ok a.0.0 = sym (answers x (inl refl) idle) ∙ a.0.1 in
          walk_idle calls x a.0.0 entries idle is_seen
          ∙ more a.1
          ∙ drop_idle (visit_by calc s n calls y) x entries (λ value e. ((after value e).0 x idle, (a.0.0, is_seen))) (visit_by calc s n calls y).outcome refl
      by_idle false busy first more =
          let same = first_is x y first in
          ap (λ (z : ℕ). after_visit (visit_by calc s n calls z).calls (visit_by calc s n calls z).outcome (λ later. settle_all (visit_by calc s n) later entries)) same
          ∙ drop_idle (visit_by calc s n calls y) x entries (λ value e. let t = after value e in (subst (λ (z : ℕ). is_idle s (visit_by calc s n calls y).calls z ≡ true) (sym same) t.1, (value, ap (seen_outcome calc s) same ∙ t.2))) (visit_by calc s n calls y).outcome refl

  ready_of : (i : input.Input) (next : Next) (inputs : List input.Input) → and_next i next ≡ Ready inputs
      → (rest : List input.Input) × (next ≡ Ready rest) × (inputs ≡ i ∷ rest)
  ready_of i (Ready rest) inputs e = (rest, refl, ready_is e)
    where
      ready_is : Ready (i ∷ rest) ≡ Ready inputs → inputs ≡ i ∷ rest
      ready_is e = cc
  ready_of i (First z) inputs e = absurd (cc)
  ready_of i (Stops cause) inputs e = absurd (cc)

  ready_answer : (r : Outcome) (next : Next) (inputs : List input.Input) → and_answer r next ≡ Ready inputs
      → ((v : Value) × (r ≡ Ok v)) × ((rest : List input.Input) × (next ≡ Ready rest)) × (and_value r (inputs_in next) ≡ Ok inputs)
  ready_answer (Ok v) next inputs e = let r = ready_of (input_of v) next inputs e in ((v, refl), (r.0, r.1), ap (λ (m : Next). and_inputs (input_of v) (inputs_in m)) r.1 ∙ ap Ok (sym r.2))
  ready_answer (Err c) next inputs e = absurd (cc)

  -- Where all inputs are at hand, the walk computes nothing more, and these are the inputs.
  pub walk_ready : (calls : List (ℕ × Outcome)) (answer : ℕ → Outcome) (inputs : List input.Input) (entries : List Entry)
      → Answers calls answer entries → next_of (is_idle s calls) answer entries ≡ Ready inputs
      → (settle_all (visit_by calc s n) calls entries ≡ record { calls = calls; refusal = None })
      × (inputs_by (seen_outcome calc s) entries ≡ Ok inputs)
  walk_ready calls answer inputs [] answers is = (refl, ap Ok (none_is is))
    where
      none_is : Ready [] ≡ Ready inputs → [] ≡ inputs
      none_is e = cc
  walk_ready calls answer inputs (Gives i ∷ entries) answers is =
      let r = ready_of (input.TheVariants.Rate i) (next_of (is_idle s calls) answer entries) inputs is in
      let w = walk_ready calls answer r.0 entries answers r.1 in
      (w.0, ap (and_inputs (input.TheVariants.Rate i)) w.1 ∙ ap Ok (sym r.2))
  walk_ready calls answer inputs (Refuses cause ∷ entries) answers is = absurd (cc)
  walk_ready calls answer inputs (Needs x ∷ entries) answers is = by_idle (is_idle s calls x) refl is (λ rest next. walk_ready calls answer rest entries (λ z among. answers z (inr among)) next)
    where
      by_idle : (b : Bool) → is_idle s calls x ≡ b
          → (if b then and_answer (answer x) (next_of (is_idle s calls) answer entries) else First x) ≡ Ready inputs
          → ((rest : List input.Input) → next_of (is_idle s calls) answer entries ≡ Ready rest → (settle_all (visit_by calc s n) calls entries ≡ record { calls = calls; refusal = None }) × (inputs_by (seen_outcome calc s) entries ≡ Ok rest))
          → (settle_all (visit_by calc s n) calls (Needs x ∷ entries) ≡ record { calls = calls; refusal = None })
          × (and_value (seen_outcome calc s x) (inputs_by (seen_outcome calc s) entries) ≡ Ok inputs)
      by_idle true idle ready more =
          let a = ready_answer (answer x) (next_of (is_idle s calls) answer entries) inputs ready in
          let same = answers x (inl refl) idle in
          let m = more a.1.0 a.1.1 in (
            walk_idle calls x a.0.0 entries idle (sym same ∙ a.0.1) ∙ m.0,
            ap (and_value (seen_outcome calc s x)) m.1 ∙ ap (λ (r : Outcome). and_value r (Ok a.1.0)) (sym same)
                ∙ ap (λ (next : Next). and_value (answer x) (inputs_in next)) (sym a.1.1) ∙ a.2,
          )
      by_idle false busy ready more = absurd (cc)

  stops_of : (i : input.Input) (next : Next) (cause : Cause) → and_next i next ≡ Stops cause → next ≡ Stops cause
  stops_of i (Ready inputs) cause e = absurd (cc)
  stops_of i (First z) cause e = absurd (cc)
  stops_of i (Stops c) cause e = e

  stops_answer : (r : Outcome) (next : Next) (cause : Cause) → and_answer r next ≡ Stops cause
      → (r ≡ Err cause) ⊎ (((v : Value) × (r ≡ Ok v)) × (next ≡ Stops cause))
  stops_answer (Ok v) next cause e = inr ((v, refl), stops_of (input_of v) next cause e)
  stops_answer (Err c) next cause e = inl (ap Err (cause_is e))
    where
      cause_is : Stops c ≡ Stops cause → c ≡ cause
      cause_is e = cc

  -- Where an entry refuses, so does the walk.
  pub walk_stops : (calls : List (ℕ × Outcome)) (answer : ℕ → Outcome) (cause : Cause) (entries : List Entry)
      → Answers calls answer entries → next_of (is_idle s calls) answer entries ≡ Stops cause
      → settle_all (visit_by calc s n) calls entries ≡ record { calls = calls; refusal = Some cause }
  walk_stops calls answer cause [] answers is = absurd (cc)
  walk_stops calls answer cause (Gives i ∷ entries) answers is = walk_stops calls answer cause entries answers (stops_of (input.TheVariants.Rate i) (next_of (is_idle s calls) answer entries) cause is)
  walk_stops calls answer cause (Refuses c ∷ entries) answers is = ap (λ (k : Cause). record { calls = calls; refusal = Some k }) (cause_is is)
    where
      cause_is : Stops c ≡ Stops cause → c ≡ cause
      cause_is e = cc
  walk_stops calls answer cause (Needs x ∷ entries) answers is = by_idle (is_idle s calls x) refl is (λ next. walk_stops calls answer cause entries (λ z among. answers z (inr among)) next)
    where
      by_idle : (b : Bool) → is_idle s calls x ≡ b
          → (if b then and_answer (answer x) (next_of (is_idle s calls) answer entries) else First x) ≡ Stops cause
          → (next_of (is_idle s calls) answer entries ≡ Stops cause → settle_all (visit_by calc s n) calls entries ≡ record { calls = calls; refusal = Some cause })
          → settle_all (visit_by calc s n) calls (Needs x ∷ entries) ≡ record { calls = calls; refusal = Some cause }
      by_idle true idle stops more = elim (stops_answer (answer x) (next_of (is_idle s calls) answer entries) cause stops) [
        | inl refused ↦
            ap (λ (v : Visit). after_visit v.calls v.outcome (λ later. settle_all (visit_by calc s n) later entries)) (idle_visit calc s n calls x idle)
            ∙ ap (λ (r : Outcome). after_visit calls r (λ later. settle_all (visit_by calc s n) later entries)) (sym (answers x (inl refl) idle) ∙ refused)
        | inr a ↦ walk_idle calls x a.0.0 entries idle (sym (answers x (inl refl) idle) ∙ a.0.1) ∙ more a.1
      ]
      by_idle false busy stops more = absurd (cc)

  -- what is computed first is no idle object, and is needed
  pub first_busy : (calls : List (ℕ × Outcome)) (answer : ℕ → Outcome) (y : ℕ) (entries : List Entry)
      → next_of (is_idle s calls) answer entries ≡ First y → (is_idle s calls y ≡ false) × Among y (needed entries)
  first_busy calls answer y [] is = absurd (cc)
  first_busy calls answer y (Gives i ∷ entries) is = first_busy calls answer y entries (first_of (input.TheVariants.Rate i) y (next_of (is_idle s calls) answer entries) is)
  first_busy calls answer y (Refuses c ∷ entries) is = absurd (cc)
  first_busy calls answer y (Needs x ∷ entries) is = by_idle (is_idle s calls x) refl is (λ next. first_busy calls answer y entries next)
    where
      by_idle : (b : Bool) → is_idle s calls x ≡ b
          → (if b then and_answer (answer x) (next_of (is_idle s calls) answer entries) else First x) ≡ First y
          → (next_of (is_idle s calls) answer entries ≡ First y → (is_idle s calls y ≡ false) × Among y (needed entries))
          → (is_idle s calls y ≡ false) × Among y (x ∷ needed entries)
      by_idle true idle first more = let m = more (first_answer (answer x) y (next_of (is_idle s calls) answer entries) first).1 in (m.0, inr m.1)
      by_idle false busy first more = let same = first_is x y first in (subst (λ (z : ℕ). is_idle s calls z ≡ false) same busy, inl (sym same))

-- a walk computes no object that none of its visits computes
walk_low : (visit : List (ℕ × Outcome) → ℕ → Visit) (x : ℕ) (calls : List (ℕ × Outcome)) (entries : List Entry)
    → ((y : ℕ) → Among y (needed entries) → (calls : List (ℕ × Outcome)) → has_value (visit calls y).calls x ≡ has_value calls x)
    → has_value (settle_all visit calls entries).calls x ≡ has_value calls x
walk_low visit x calls [] low = refl
walk_low visit x calls (Gives i ∷ entries) low = walk_low visit x calls entries low
walk_low visit x calls (Refuses c ∷ entries) low = refl
walk_low visit x calls (Needs y ∷ entries) low = by_outcome (visit calls y).calls (visit calls y).outcome (walk_low visit x (visit calls y).calls entries (λ z among. low z (inr among)))
    ∙ low y (inl refl) calls
  where
    by_outcome : (later : List (ℕ × Outcome)) (r : Outcome)
        → has_value (settle_all visit later entries).calls x ≡ has_value later x
        → has_value (after_visit later r (λ later. settle_all visit later entries)).calls x ≡ has_value later x
    by_outcome later (Ok v) e = e
    by_outcome later (Err c) e = refl

-- a visit computes nothing of a higher rank
pub visit_low : (calc : Calc) (s : State) (rank : ℕ → ℕ) → Falls (edges s.market) rank → (x n o : ℕ) → rank o < rank x
    → (calls : List (ℕ × Outcome)) → has_value (visit_by calc s n calls o).calls x ≡ has_value calls x
unfolding visit_by
visit_low calc s rank falls x zero o lower calls = refl
visit_low calc s rank falls x (suc n) o lower calls = by_idle (is_idle s calls o) (walk_low (visit_by calc s n) x calls (uses s.market o) (λ y among later. let fall = needs_fall s.market rank falls o y among in visit_low calc s rank falls x n y (omega arith) later))
  where
    by_refusal : (later : List (ℕ × Outcome)) (refusal : Option Cause)
        → has_value (settle (now calc s o) o later refusal).calls x ≡ has_value later x
    by_refusal later (Some c) = refl
    by_refusal later None = has_more later o x (now calc s o) ∙ or_and_false (has_value later x) (is_ok (now calc s o)) (o == x) (ne_eqb o x (λ (same : o ≡ x). let e = ap rank same in omega arith))
      where
        or_and_false : (a b c : Bool) → c ≡ false → (a || (b && c)) ≡ a
        or_and_false true b c e = refl
        or_and_false false true c e = e
        or_and_false false false c e = refl

    by_idle : (b : Bool)
        → has_value (settle_all (visit_by calc s n) calls (uses s.market o)).calls x ≡ has_value calls x
        → has_value (if b then record { calls = calls; outcome = seen_outcome calc s o } else settle_walk (now calc s o) o (settle_all (visit_by calc s n) calls (uses s.market o))).calls x ≡ has_value calls x
    by_idle true e = refl
    by_idle false e = by_refusal (settle_all (visit_by calc s n) calls (uses s.market o)).calls (settle_all (visit_by calc s n) calls (uses s.market o)).refusal
        ∙ e
