-- An ask from the state that earlier calls left goes on as the same visit after these calls.
use Rattle.std.proofs.Common.{◌≡◌, inl, inr, ℕ, zero, suc, ◌+◌, Bool, true, false, List, [], ◌∷◌, ◌++◌, length, Option, Some, None, Ok, Err, refl, sym, ◌∙◌, ap}
use Rattle.std.specs.Prelude.{◌||◌, ◌==◌, not, ◌⊎◌, is_some, if◌then◌else◌}
use Rattle.std.proofs.lemmas.List.{append_assoc, get_or_past}
use Rattle.std.proofs.lemmas.Bool.{cases_Bool, cases_lt, or_right}
use Rattle.walks.specs.Walk.{below_by}
use Rattle.walks.proofs.Ranks.{below_same}
use Rattle.desk_terms.specs.declared.value.Value.{Value}
use Rattle.desk_terms.specs.declared.cause.Cause.{Cause}
use Rattle.desk_terms.specs.Reading.{Outcome, Calc}
use Rattle.desk_model.specs.declared.kept.Kept.{Kept}
use Rattle.desk_model.specs.declared.entry.Entry.{Entry}
use Rattle.desk_model.specs.declared.entry.Entry.TheVariants.{Gives, Needs, Refuses}
use Rattle.desk_model.specs.Market.{edges}
use Rattle.desk_model.specs.Uses.{uses}
use Rattle.desk_model.specs.Fresh.{answer_by, priced_by}
use Rattle.desk_model.specs.State.{State, kept_at, unpriced, last_of, last_answer, is_frozen, is_source, is_late, held_outcome, seen_outcome, now, each_kept}
use Rattle.desk_model.specs.Links.{IsWhole}
use Rattle.desk_model.specs.Visit.{Visit, Walk, value_in, or_value, value_among, has_value, with_value, is_idle, after_visit, settle_all, settle, settle_walk, visit_by, stored}
use Rattle.desk_model.proofs.Stores.{each_at, each_past}
use Rattle.desk_model.proofs.Visits.{IsClosed, none_of}
use Rattle.desk_model.proofs.Asked.{stored_not, got}
use Rattle.ask_walk.proofs.Loop.{each_same}

with_flags : (k : Kept) (v : Option Value) → ((with_value k v).frozen ≡ k.frozen) × ((with_value k v).source ≡ k.source)
with_flags k None = (refl, refl)
with_flags k (Some value) = (refl, refl)

flags_stored : (s : State) (calls : List (ℕ × Outcome)) (f : Kept → Bool) → ((k : Kept) (v : Option Value) → f (with_value k v) ≡ f k) → (o : ℕ) → f (kept_at (stored s calls) o) ≡ f (kept_at s o)
unfolding stored
flags_stored s calls f same o = elim (cases_lt o (length s.kept)) [
  | inl within ↦ ap f (each_at (λ o kept. with_value kept (value_among calls o)) 0 o s.kept within) ∙ same (kept_at s o) (value_among calls (0 + o))
  | inr past ↦ ap f (each_past (λ o kept. with_value kept (value_among calls o)) 0 o s.kept past ∙ sym (get_or_past s.kept o unpriced past))
]

-- no value changes a flag but `current`
pub frozen_stored : (s : State) (calls : List (ℕ × Outcome)) (o : ℕ) → is_frozen (stored s calls) o ≡ is_frozen s o
unfolding is_frozen
frozen_stored s calls o = flags_stored s calls (λ (k : Kept). k.frozen) (λ k v. (with_flags k v).0) o

pub source_stored : (s : State) (calls : List (ℕ × Outcome)) (o : ℕ) → is_source (stored s calls) o ≡ is_source s o
unfolding is_source
source_stored s calls o = flags_stored s calls (λ (k : Kept). k.source) (λ k v. (with_flags k v).1) o

pub late_stored : (s : State) (calls : List (ℕ × Outcome)) (o : ℕ) → is_late (stored s calls) o ≡ is_late s o
unfolding is_late stored
late_stored s calls o =
    ap (λ (b : Bool). b || below_by_then) (source_stored s calls o)
    ∙ ap (λ (b : Bool). is_source s o || b) (below_same (edges s.market) (is_source (stored s calls)) (is_source s) (λ x. not (is_frozen (stored s calls) x)) (λ x. not (is_frozen s x)) (λ x. source_stored s calls x) (λ x. ap not (frozen_stored s calls x)) (suc (length s.market.objects)) o)
  where
    below_by_then : Bool
    below_by_then = below_by (edges s.market) (is_source (stored s calls)) (λ x. not (is_frozen (stored s calls) x)) (suc (length s.market.objects)) o

-- the values of two lists of calls
pub value_append : (calls more : List (ℕ × Outcome)) (x : ℕ) → value_among (calls ++ more) x ≡ or_value (value_among calls x) (value_among more x)
value_append [] more x = refl
value_append (call ∷ calls) more x = ap (or_value (if call.0 == x then value_in call.1 else None)) (value_append calls more x)
    ∙ or_assoc (if call.0 == x then value_in call.1 else None) (value_among calls x) (value_among more x)
  where
    or_assoc : (a b c : Option Value) → or_value a (or_value b c) ≡ or_value (or_value a b) c
    or_assoc (Some value) b c = refl
    or_assoc None b c = refl

pub has_append : (calls more : List (ℕ × Outcome)) (x : ℕ) → has_value (calls ++ more) x ≡ (has_value calls x || has_value more x)
has_append calls more x = ap is_some (value_append calls more x) ∙ by_first (value_among calls x) (value_among more x)
  where
    by_first : (a b : Option Value) → is_some (or_value a b) ≡ (is_some a || is_some b)
    by_first (Some value) b = refl
    by_first None b = refl

each_twice : (f g : ℕ → Kept → Kept) (from : ℕ) (ks : List Kept) → each_kept g from (each_kept f from ks) ≡ each_kept (λ o k. g o (f o k)) from ks
each_twice f g from [] = refl
each_twice f g from (k ∷ ks) = ap (λ (t : List Kept). g from (f from k) ∷ t) (each_twice f g (from + 1) ks)

-- what is stored twice is stored once, where no object got a value both times
pub stored_twice : (s : State) (calls more : List (ℕ × Outcome)) → ((x : ℕ) → has_value calls x ≡ true → has_value more x ≡ false) → stored (stored s calls) more ≡ stored s (calls ++ more)
unfolding stored
stored_twice s calls more apart = ap (λ (l : List Kept). record s { kept = l }) (each_twice (λ o kept. with_value kept (value_among calls o)) (λ o kept. with_value kept (value_among more o)) 0 s.kept
    ∙ each_same (λ o kept. with_value (with_value kept (value_among calls o)) (value_among more o)) (λ o kept. with_value kept (value_among (calls ++ more) o)) 0 s.kept
    (λ o k le. at_one k (value_among calls o) (value_among more o) (apart o) ∙ ap (with_value k) (sym (value_append calls more o))))
  where
    at_one : (k : Kept) (a b : Option Value) → (is_some a ≡ true → is_some b ≡ false) → with_value (with_value k a) b ≡ with_value k (or_value a b)
    at_one k None b apart = refl
    at_one k (Some v) b apart = ap (with_value (with_value k (Some v))) (none_of b (apart refl))

-- a visit, and a walk, after these calls
abbrev pub resumed_visit : List (ℕ × Outcome) → Visit → Visit
resumed_visit calls visit = record { calls = calls ++ visit.calls; outcome = visit.outcome }

abbrev pub resumed_walk : List (ℕ × Outcome) → Walk → Walk
resumed_walk calls walk = record { calls = calls ++ walk.calls; refusal = walk.refusal }

walk_goes_on : (calls : List (ℕ × Outcome)) (f g : List (ℕ × Outcome) → ℕ → Visit) → ((c : List (ℕ × Outcome)) (x : ℕ) → f (calls ++ c) x ≡ resumed_visit calls (g c x))
    → (c : List (ℕ × Outcome)) (entries : List Entry) → settle_all f (calls ++ c) entries ≡ resumed_walk calls (settle_all g c entries)
walk_goes_on calls f g each c [] = refl
walk_goes_on calls f g each c (Gives rate ∷ entries) = walk_goes_on calls f g each c entries
walk_goes_on calls f g each c (Refuses cause ∷ entries) = refl
walk_goes_on calls f g each c (Needs x ∷ entries) = ap (λ (v : Visit). after_visit v.calls v.outcome (λ later. settle_all f later entries)) (each c x)
    ∙ by_outcome (g c x).outcome (walk_goes_on calls f g each (g c x).calls entries)
  where
    by_outcome : (r : Outcome) → settle_all f (calls ++ (g c x).calls) entries ≡ resumed_walk calls (settle_all g (g c x).calls entries)
        → after_visit (calls ++ (g c x).calls) r (λ later. settle_all f later entries) ≡ resumed_walk calls (after_visit (g c x).calls r (λ later. settle_all g later entries))
    by_outcome (Ok value) rest = rest
    by_outcome (Err cause) rest = refl

settle_goes_on : (calls : List (ℕ × Outcome)) (price : Outcome) (x : ℕ) (later : List (ℕ × Outcome)) (refusal : Option Cause)
    → settle price x (calls ++ later) refusal ≡ resumed_visit calls (settle price x later refusal)
settle_goes_on calls price x later None = ap (λ (l : List (ℕ × Outcome)). record { calls = l; outcome = price }) (append_assoc calls later ((x, price) ∷ []))
settle_goes_on calls price x later (Some cause) = refl

some_none : {A : Type 0} {a : A} → Some a ≡ None → ⊥
some_none e = cc

module _ (calc : Calc) (s : State) (whole : IsWhole s) (calls : List (ℕ × Outcome)) (closed : IsClosed calc s calls) where
  held_flag : (x : ℕ) → (is_frozen (stored s calls) x || is_late (stored s calls) x) ≡ (is_frozen s x || is_late s x)
  held_flag x = ap (λ (b : Bool). b || is_late (stored s calls) x) (frozen_stored s calls x) ∙ ap (λ (b : Bool). is_frozen s x || b) (late_stored s calls x)

  -- what is held stays held, at the same value
  pub held_then : (x : ℕ) → held_outcome (stored s calls) x ≡ held_outcome s x
  unfolding held_outcome
  held_then x = ap (λ (b : Bool). if b then Some (last_answer (stored s calls) x) else None) (held_flag x) ∙ by_flag (cases_Bool (is_frozen s x || is_late s x))
    where
      by_flag : (((is_frozen s x || is_late s x) ≡ true) ⊎ ((is_frozen s x || is_late s x) ≡ false))
          → (if is_frozen s x || is_late s x then Some (last_answer (stored s calls) x) else None) ≡ (if is_frozen s x || is_late s x then Some (last_answer s x) else None)
      by_flag (inr free) = ap (λ (b : Bool). if b then Some (last_answer (stored s calls) x) else None) free ∙ sym (ap (λ (b : Bool). if b then Some (last_answer s x) else None) free)
      by_flag (inl is) = ap (λ (r : Outcome). if is_frozen s x || is_late s x then Some r else None) (elim (cases_Bool (has_value calls x)) [
        | inr none ↦ ap (λ (k : Kept). last_of x k.last) (stored_not s calls x none)
        | inl has ↦ absurd (some_none (sym (ap (λ (b : Bool). if b then Some (last_answer s x) else None) is) ∙ (closed x has).free))
      ])

  pub seen_then : (x : ℕ) → seen_outcome calc (stored s calls) x ≡ seen_outcome calc s x
  unfolding seen_outcome stored
  seen_then x = ap (λ (h : ℕ → Option Outcome). answer_by calc s.market h (suc (length s.market.objects)) x) (λ i y. held_then y i)

  pub now_then : (x : ℕ) → now calc (stored s calls) x ≡ now calc s x
  unfolding now stored
  now_then x = ap (λ (f : ℕ → Outcome). priced_by calc s.market f x) (λ i y. seen_then y i)

  current_then : (x : ℕ) → (kept_at (stored s calls) x).current ≡ ((kept_at s x).current || has_value calls x)
  current_then x = elim (cases_Bool (has_value calls x)) [
    | inl has ↦ ap (λ (k : Kept). k.current) (got calc s whole calls closed x has) ∙ sym (or_right (kept_at s x).current (has_value calls x) has)
    | inr none ↦ ap (λ (k : Kept). k.current) (stored_not s calls x none) ∙ sym (or_no (kept_at s x).current (has_value calls x) none)
  ]
    where
      or_no : (a b : Bool) → b ≡ false → (a || b) ≡ a
      or_no true b e = refl
      or_no false b e = e

  pub idle_then : (c : List (ℕ × Outcome)) (x : ℕ) → is_idle (stored s calls) c x ≡ is_idle s (calls ++ c) x
  idle_then c x =
      ap (λ (h : Option Outcome). is_some h || ((kept_at (stored s calls) x).current || has_value c x)) (held_then x)
      ∙ ap (λ (b : Bool). is_some (held_outcome s x) || b) (ap (λ (b : Bool). b || has_value c x) (current_then x)
      ∙ or_moved (kept_at s x).current (has_value calls x) (has_value c x)
      ∙ ap (λ (b : Bool). (kept_at s x).current || b) (sym (has_append calls c x)))
    where
      or_moved : (a b c : Bool) → ((a || b) || c) ≡ (a || (b || c))
      or_moved true b c = refl
      or_moved false b c = refl

  -- A VISIT AFTER THESE CALLS is the visit in the state that they left
  pub visit_then : (n : ℕ) (c : List (ℕ × Outcome)) (x : ℕ) → visit_by calc s n (calls ++ c) x ≡ resumed_visit calls (visit_by calc (stored s calls) n c x)
  unfolding visit_by stored
  visit_then zero c x = ap (λ (r : Outcome). record { calls = calls ++ c; outcome = r }) (sym (seen_then x))
  visit_then (suc n) c x =
      ap (λ (b : Bool). if b then idle else settle_walk (now calc s x) x walked) (sym (idle_then c x))
      ∙ ap (λ (w : Walk). if is_idle (stored s calls) c x then idle else settle_walk (now calc s x) x w) (walk_goes_on calls (visit_by calc s n) (visit_by calc (stored s calls) n) (visit_then n) c (uses s.market x))
      ∙ by_idle (is_idle (stored s calls) c x)
    where
      idle : Visit
      idle = record { calls = calls ++ c; outcome = seen_outcome calc s x }

      walked : Walk
      walked = settle_all (visit_by calc s n) (calls ++ c) (uses s.market x)

      walked_then : Walk
      walked_then = settle_all (visit_by calc (stored s calls) n) c (uses s.market x)

      by_idle : (b : Bool) → (if b then idle else settle_walk (now calc s x) x (resumed_walk calls walked_then)) ≡ resumed_visit calls (if b then record { calls = c; outcome = seen_outcome calc (stored s calls) x } else settle_walk (now calc (stored s calls) x) x walked_then)
      by_idle true = ap (λ (r : Outcome). record { calls = calls ++ c; outcome = r }) (sym (seen_then x))
      by_idle false = ap (λ (r : Outcome). settle_walk r x (resumed_walk calls walked_then)) (sym (now_then x)) ∙ settle_goes_on calls (now calc (stored s calls) x) x walked_then.calls walked_then.refusal
