-- What an ask and a recalculation at the desk are for a session.
use Rattle.std.proofs.Common.{◌≡◌, ◌≢◌, ◌⊎◌, inl, inr, ℕ, suc, ◌+◌, ◌<◌, ◌≤◌, ◌==◌, Bool, List, [], ◌∷◌, ◌++◌, length, Option, Some, None, Result, Ok, Err, if◌then◌else◌, refl, sym, ◌∙◌, ap, subst, arith}
use Rattle.std.specs.Prelude.{take, slice_index_or, IfOk, OnErr}
use Rattle.std.proofs.lemmas.List.{append-nil, length-append, take_all, take-append-le}
use Rattle.std.proofs.Math.Seq.{take-append_seam}
use Rattle.std.proofs.lemmas.Bool.{cases_eq, ne_eqb}
use Rattle.desk_terms.specs.declared.asked.Asked.{Asked}
use Rattle.desk_terms.specs.declared.cause.Cause.{Cause}
use Rattle.desk_terms.specs.declared.value.Value.{Value}
use Rattle.desk_terms.specs.Reading.{Outcome, Calc}
use Rattle.desk_terms.specs.Bench.{counted, logged}
use Rattle.desk_model.specs.declared.kept.Kept.{Kept}
use Rattle.desk_model.specs.State.{State, kept_at, unpriced, each_kept, least_source, now}
use Rattle.desk_model.specs.Visit.{log_of, value_in, or_value, value_among, with_value, settle, stored}
use Rattle.desk_model.specs.Recalc.{inputs_walk, reruns}
use Rattle.desk_model.proofs.Stores.{each_at}
use Rattle.desk_model.proofs.Visits.{value_more}
use Rattle.ask_walk.specs.declared.recalced.Recalced.{Recalced}
use Rattle.ask_walk.specs.declared.recalced.Recalced.TheVariants.{Deferred, Done}
use Rattle.ask_walk.specs.Asks as asks
use Rattle.ask_walk.specs.Recalcs as recalcs
use Rattle.session_model.specs.Standing.{Standing}
use Rattle.session_model.specs.Pricing.{Pricing, asking, recalculating}
use Rattle.session_core.specs.Pricing.{Prices, StopsShort}
use Rattle.session_core.specs.HasNames.{HasNames}
use Rattle.session_core.proofs.Naming.{none_some, AreAlike, names_alike}
use Rattle.session_core.proofs.Alike.{stored_alike, asked_alike}
use Rattle.session_core.proofs.Turns.{on_err_of}

abbrev Log : Type 0
Log = Option (List (ℕ × Bool))

log_front : (front rest : List (ℕ × Outcome)) → take (length front) (log_of (front ++ rest)) ≡ log_of front
log_front [] rest = refl
log_front (call ∷ front) rest = ap (λ (log : List (ℕ × Bool)). log_of (call ∷ []) ++ log) (log_front front rest)

some_length : {A : Type 0} (xs : List A) → xs ≢ [] → 1 ≤ length xs
some_length [] e = absurd (e refl)
some_length (x ∷ xs) e = omega arith

pub if_ok : {A E : Type 0} {P Q : A → Type 0} (result : Result A E) → ((x : A) → P x → Q x) → IfOk result P
    → IfOk result Q
if_ok (Ok x) f p = f x p
if_ok (Err e) f p = tt

-- two changes that do the same to each object
each_as : (f g : ℕ → Kept → Kept) (from : ℕ) (kept : List Kept)
    → ((i x : ℕ) → x ≡ from + i → i < length kept
    → f x (slice_index_or kept i unpriced) ≡ g x (slice_index_or kept i unpriced))
    → each_kept f from kept ≡ each_kept g from kept
each_as f g from [] same = refl
each_as f g from (k ∷ kept) same =
    ap (λ (h : Kept). h ∷ each_kept f (from + 1) kept) (same 0 from (omega arith) (omega arith))
    ∙ ap (λ (rest : List Kept). g from k ∷ rest)
    (each_as f g (from + 1) kept (λ i x at within. same (suc i) x (omega (arith, at)) (omega (arith, within))))

or_none : (v : Option Value) → or_value v None ≡ v
or_none None = refl
or_none (Some value) = refl

-- where later values change nothing of what is stored, the first ones change the same
as_first : (k : Kept) (first later all : Option Value) → all ≡ or_value first later → with_value k all ≡ k
    → with_value k all ≡ with_value k first
as_first k (Some value) later all is own = ap (with_value k) is
as_first k None later all is own = own

-- a call of o after which all is as before of o leaves what the calls before it left
module _ (s : State) (calls : List (ℕ × Outcome)) (o : ℕ) (r : Outcome)
    (own : kept_at (stored s (calls ++ (o, r) ∷ [])) o ≡ kept_at s o) where
  kept_own : (x : ℕ) → x < length s.kept → x ≡ o
      → with_value (kept_at s x) (value_among (calls ++ (o, r) ∷ []) x) ≡ kept_at s x
  unfolding stored
  kept_own x within same =
      let e : 0 + x ≡ x = omega arith in
      sym (each_at (λ y kept. with_value kept (value_among (calls ++ (o, r) ∷ []) y)) 0 x s.kept within
      ∙ ap (λ (n : ℕ). with_value (kept_at s x) (value_among (calls ++ (o, r) ∷ []) n)) e)
      ∙ subst (λ (y : ℕ). kept_at (stored s (calls ++ (o, r) ∷ [])) y ≡ kept_at s y) (sym same) own

  kept_same : (x : ℕ) → x < length s.kept → with_value (kept_at s x) (value_among (calls ++ (o, r) ∷ []) x)
      ≡ with_value (kept_at s x) (value_among calls x)
  kept_same x within = elim (cases_eq x o) [
    | inl same ↦ as_first (kept_at s x) (value_among calls x) (if o == x then value_in r else None) _
        (value_more calls o x r) (kept_own x within same)
    | inr other ↦ ap (with_value (kept_at s x))
        (value_more calls o x r
        ∙ ap (λ (b : Bool). or_value (value_among calls x) (if b then value_in r else None))
        (ne_eqb o x (λ same. other (sym same))) ∙ or_none (value_among calls x))
  ]

  stored_own : stored s (calls ++ (o, r) ∷ []) ≡ stored s calls
  unfolding stored
  stored_own = ap (λ (kept : List Kept). record s { kept = kept })
      (each_as (λ y kept. with_value kept (value_among (calls ++ (o, r) ∷ []) y))
      (λ y kept. with_value kept (value_among calls y)) 0 s.kept
      (λ i x at within. let e : i ≡ x = omega (arith, at) in
      subst (λ (y : ℕ). with_value (kept_at s i) (value_among (calls ++ (o, r) ∷ []) y)
      ≡ with_value (kept_at s i) (value_among calls y)) e (kept_same i within)))

-- a front of a recalculation's calls after which all of its object is as before leaves what its inputs' calls left
module _ (s : State) (o : ℕ) (price : Outcome) where
  inputs_left : (calls : List (ℕ × Outcome)) (refusal : Option Cause) (front rest : List (ℕ × Outcome))
      → (settle price o calls refusal).calls ≡ front ++ rest → kept_at (stored s front) o ≡ kept_at s o
      → stored s front ≡ stored s (take (length front) calls)
  inputs_left calls (Some cause) front rest whole own = ap (stored s)
      (sym (ap (λ (all : List (ℕ × Outcome)). take (length front) all) whole ∙ take-append_seam front rest))
  inputs_left calls None front [] whole own =
      let is : calls ++ (o, price) ∷ [] ≡ front = whole ∙ append-nil front in
      let more : length calls + 1 ≡ length front =
      sym (length-append calls ((o, price) ∷ [])) ∙ ap (λ (all : List (ℕ × Outcome)). length all) is in
      ap (stored s) (sym is)
      ∙ stored_own s calls o price
      (subst (λ (all : List (ℕ × Outcome)). kept_at (stored s all) o ≡ kept_at s o) (sym is) own)
      ∙ ap (stored s) (sym (take_all (length front) calls (omega (arith, more))))
  inputs_left calls None front (call ∷ rest) whole own =
      let fewer : length calls + 1 ≡ length front + length (call ∷ rest) =
      sym (length-append calls ((o, price) ∷ [])) ∙ ap (λ (all : List (ℕ × Outcome)). length all) whole
      ∙ length-append front (call ∷ rest) in
      ap (stored s)
      (sym (sym (take-append-le (length front) calls ((o, price) ∷ []) (omega (arith, fewer)))
      ∙ ap (λ (all : List (ℕ × Outcome)). take (length front) all) whole ∙ take-append_seam front (call ∷ rest)))

-- a session whose desk was asked, and is in this state then
module _ (calc : Calc) (o : ℕ) (p : Standing) (t : State) (count_old count_new : ℕ) (log_old log_new : Log) where
  stops_front : (w : Pricing) (front rest : List (ℕ × Outcome)) (begun : ℕ) → w.calls ≡ front ++ rest
      → begun ≤ length (front ++ rest) → (length front ≤ begun) × (begun ≤ length front + 1)
      → t ≡ stored p.state (take (length front) w.survivors) → count_new ≡ counted count_old begun
      → log_new ≡ logged log_old (log_of front)
      → StopsShort w p (record p { state = t }) count_old count_new log_old log_new
  stops_front w front rest begun whole most last state count log = record {
    begun = begun;
    ended = length front;
    most = subst (λ (n : ℕ). begun ≤ n) (sym (ap (λ (calls : List (ℕ × Outcome)). length calls) whole)) most;
    last = last;
    count = count;
    log = log ∙ ap (logged log_old)
        (sym (ap (λ (calls : List (ℕ × Outcome)). take (length front) (log_of calls)) whole ∙ log_front front rest));
    next = ap (λ (s : State). record p { state = s }) state;
  }

  stops_counted : (w : Pricing) (front rest : List (ℕ × Outcome)) → w.calls ≡ front ++ rest
      → (count_new ≡ counted count_old (length front))
      ⊎ ((rest ≢ []) × (count_new ≡ counted count_old (length front + 1)))
      → t ≡ stored p.state (take (length front) w.survivors) → log_new ≡ logged log_old (log_of front)
      → StopsShort w p (record p { state = t }) count_old count_new log_old log_new
  stops_counted w front rest whole count state log = elim count [
    | inl exact ↦ stops_front w front rest (length front) whole (omega (arith, length-append front rest))
        (omega arith, omega arith) state exact log
    | inr more ↦
        let some : 1 ≤ length rest = some_length rest more.0 in
        stops_front w front rest (length front + 1) whole (omega (arith, some, length-append front rest))
        (omega arith, omega arith) state more.1 log
  ]

  pub ask_prices : (answer : Asked) → asks.Asks calc o p.state t answer count_old count_new log_old log_new
      → Prices (asking calc o p.state) o p (record p { state = t }) answer count_old count_new log_old log_new
  ask_prices answer a = record {
    next = ap (λ (s : State). record p { state = s }) a.state;
    shown = a.shown;
    mark = a.mark;
    number = a.number;
    count = a.count;
    log = a.log;
  }

  pub ask_stops : asks.Stops calc o p.state t count_old count_new log_old log_new
      → StopsShort (asking calc o p.state) p (record p { state = t }) count_old count_new log_old log_new
  ask_stops s =
      stops_counted (asking calc o p.state) s.front s.rest s.whole s.count
      (s.state ∙ ap (stored p.state)
      (sym (ap (λ (calls : List (ℕ × Outcome)). take (length s.front) calls) s.whole
      ∙ take-append_seam s.front s.rest)))
      s.log

  pub recalc_prices : (answer : Asked) → recalcs.Recalcs calc o p.state t answer count_old count_new log_old log_new
      → Prices (recalculating calc o p.state) o p (record p { state = t }) answer count_old count_new log_old log_new
  recalc_prices answer a = record {
    next = ap (λ (s : State). record p { state = s }) a.state;
    shown = a.shown;
    mark = a.mark;
    number = a.number;
    count = a.count;
    log = a.log;
  }

  pub recalc_stops : recalcs.RecalcStops calc o p.state t count_old count_new log_old log_new
      → StopsShort (recalculating calc o p.state) p (record p { state = t }) count_old count_new log_old log_new
  unfolding reruns
  recalc_stops s =
      stops_counted (recalculating calc o p.state) s.front s.rest s.whole s.count
      (s.state ∙ inputs_left p.state o (now calc p.state o) (inputs_walk calc p.state o).calls
      (inputs_walk calc p.state o).refusal s.front s.rest s.whole
      (sym (ap (λ (u : State). kept_at u o) s.state) ∙ s.own)) s.log

-- a recalculation that was done, and one of an object that is not late
module _ (calc : Calc) (o : ℕ) (s t : State) (count_old count_new : ℕ) (log_old log_new : Log) where
  pub recalc_done : (r : Recalced) (answer : Asked) → r ≡ Done answer
      → recalcs.RecalcEnds calc o s t r count_old count_new log_old log_new
      → recalcs.Recalcs calc o s t answer count_old count_new log_old log_new
  recalc_done r answer is ends =
      (subst (λ (x : Recalced). recalcs.RecalcEnds calc o s t x count_old count_new log_old log_new) is ends).1

  pub recalc_early : (r : Recalced) (source : ℕ) → r ≡ Deferred source → least_source s o ≡ None
      → recalcs.RecalcEnds calc o s t r count_old count_new log_old log_new → ⊥
  recalc_early r source is early ends =
      none_some (sym early
      ∙ (subst (λ (x : Recalced). recalcs.RecalcEnds calc o s t x count_old count_new log_old log_new) is ends).0)

-- a session whose desk was asked, however that ends
module _ {E : Type 0} (calc : Calc) (o : ℕ) (p : Standing) (t : State) (count_old count_new : ℕ) (log_old log_new : Log)
    (result : Result Asked E) (done : IfOk result (λ answer. asks.Asks calc o p.state t answer count_old count_new log_old log_new))
    (broken : OnErr result (asks.Stops calc o p.state t count_old count_new log_old log_new)) where
  pub ask_names : (of_name : List (Option ℕ)) (live : ℕ) → HasNames p of_name live → HasNames (record p { state = t }) of_name live
  ask_names of_name live = names_alike p of_name live t p.stopped (alike result done broken)
    where
      alike : (r : Result Asked E) → IfOk r (λ answer. asks.Asks calc o p.state t answer count_old count_new log_old log_new)
          → OnErr r (asks.Stops calc o p.state t count_old count_new log_old log_new) → AreAlike p.state.market t.market
      alike (Ok answer) a stops = asked_alike calc p.state t o a.state
      alike (Err e) a stops = stored_alike p.state t stops.front stops.state

  pub ask_done : (q : Standing) → p ≡ q → IfOk result
      (λ answer. Prices (asking calc o q.state) o q (record p { state = t }) answer count_old count_new log_old log_new)
  ask_done q same = subst (λ (r : Standing). IfOk result
      (λ (answer : Asked). Prices (asking calc o r.state) o r (record p { state = t }) answer count_old count_new log_old log_new)) same
      (if_ok result (ask_prices calc o p t count_old count_new log_old log_new) done)

  pub ask_broken : (q : Standing) → p ≡ q
      → OnErr result (StopsShort (asking calc o q.state) q (record p { state = t }) count_old count_new log_old log_new)
  ask_broken q same = subst
      (λ (r : Standing). OnErr result (StopsShort (asking calc o r.state) r (record p { state = t }) count_old count_new log_old log_new)) same
      (on_err_of result (ask_stops calc o p t count_old count_new log_old log_new) broken)
