-- The loop of a recalculation: each input that is not at hand is asked for, and then the object is computed.
use Rattle.std.proofs.Common.{◌≡◌, ◌≢◌, ◌⊎◌, inl, inr, ℕ, zero, suc, ◌+◌, ◌*◌, ◌<◌, ◌≤◌, ◌^◌, Bool, true, false, List, [], ◌∷◌, ◌++◌, length, Option, Some, None, Result, Ok, Err, refl, sym, ◌∙◌, ap, subst, arith}
use Rattle.std.specs.Prelude.{is_some, is_none, is_ok, if◌then◌else◌, slice_index_or, slice_set}
use Rattle.std.proofs.lemmas.List.{append-nil, append_assoc, length-append}
use Rattle.std.proofs.lemmas.Bool.{cases_Bool, or_cases, or_parts, false≢true}
use Rattle.walks.specs.Walk.{Among}
use Rattle.desk_terms.specs.declared.terms.Terms.{Terms}
use Rattle.desk_terms.specs.declared.value.Value.{Value}
use Rattle.desk_terms.specs.declared.value.Input as input
use Rattle.desk_terms.specs.declared.cause.Cause.{Cause}
use Rattle.desk_terms.specs.declared.asked.Asked.{Asked}
use Rattle.desk_terms.specs.declared.asked.Mark.TheVariants.{Recalc}
use Rattle.desk_terms.specs.Asked.{Shows}
use Rattle.desk_terms.specs.Reading.{Outcome, Calc, IsWellFormed}
use Rattle.desk_terms.specs.Bench.{counted, logged}
use Rattle.desk_model.specs.declared.kept.Kept.{Kept}
use Rattle.desk_model.specs.declared.entry.Next.TheVariants.{Ready, First, Stops}
use Rattle.desk_model.specs.Market.{Market, terms_at, role_of, is_lazy}
use Rattle.desk_model.specs.Uses.{input_at, uses_of, uses, needs, reading_at}
use Rattle.desk_model.specs.Fresh.{inputs_by, reading_over, priced}
use Rattle.desk_model.specs.Links.{AreOfKind, is_lazy_at, IsRanged, IsLinked}
use Rattle.desk_model.specs.State.{State, kept_at, unpriced, is_late, least_source, held_outcome, seen_outcome, now, each_kept}
use Rattle.desk_model.specs.Visit.{Visit, Walk, log_of, has_value, value_among, with_value, is_idle, after_visit, settle_all, settle_walk, visit_by, runs, stored, asked}
use Rattle.desk_model.specs.Next.{next_of}
use Rattle.desk_model.specs.Recalc.{inputs_walk, reruns}
use Rattle.desk_model.proofs.Bounds.{ranks_of}
use Rattle.desk_model.proofs.Locality.{needs_fall}
use Rattle.desk_model.proofs.Paths.{late_least}
use Rattle.desk_model.proofs.Lazy.{runs_lazy}
use Rattle.desk_model.proofs.Wants.{well_formed, needs_lazy}
use Rattle.desk_model.proofs.Visits.{IsClosed, GoesOn, visit_goes, visit_outcome, visit_steps, walk_refusal, refusal_of, runs_closed, runs_idle, not_idle, none_of, idle_grows}
use Rattle.desk_model.proofs.Asked.{stored_not, stored_length, got, sound_stored, whole_stored, ready_then}
use Rattle.desk_model.proofs.Steps.{Answers, walk_first, walk_ready, walk_stops, first_busy, visit_low}
use Rattle.desk_model.proofs.Changes.{lazy_within}
use Rattle.object_store.specs.Slots.{is_now, answer_of, is_at_hand}
use Rattle.ask_walk.specs.Asks as asks
use Rattle.ask_walk.specs.Asks.{Walks, MayAsk, Stays, IsComputed, Computes}
use Rattle.ask_walk.specs.Recalcs.{IsRepriced, Reprices, RecalcStops, with_inputs}
use Rattle.desk_model.proofs.Shown.{or_false}
use Rattle.ask_walk.proofs.Loop.{open_of, open_le, each_id, hand_idle, next_same, fit_of, values_of, lazy_terms}
use Rattle.ask_walk.proofs.Extends.{Extends, settle_extends, visit_extends, walk_extends}
use Rattle.ask_walk.proofs.Restarts.{held_then, seen_then, visit_then, resumed_visit, has_append, stored_twice}

-- counts, logs and what they are of
pub counted_more : (count0 n m : ℕ) → counted (counted count0 n) m ≡ counted count0 (n + m)
counted_more count0 n zero = let e : n + zero ≡ n = omega arith in ap (counted count0) (sym e)
counted_more count0 n (suc m) = let e : n + suc m ≡ suc (n + m) = omega arith in rw e (rw (counted_more count0 n m) refl)

logged_more : (log0 : Option (List (ℕ × Bool))) (calls more : List (ℕ × Bool)) → logged (logged log0 calls) more ≡ logged log0 (calls ++ more)
logged_more None calls more = refl
logged_more (Some log) calls more = ap Some (append_assoc log calls more)

log_append : (calls more : List (ℕ × Outcome)) → log_of (calls ++ more) ≡ log_of calls ++ log_of more
log_append [] more = refl
log_append (call ∷ calls) more = ap (λ (l : List (ℕ × Bool)). (call.0, is_ok call.1) ∷ l) (log_append calls more)

-- each value makes one object more current
open_each : (f : ℕ → Option Value) (from : ℕ) (ks : List Kept) → open_of (each_kept (λ o k. with_value k (f o)) from ks) ≤ open_of ks
open_each f from [] = omega arith
open_each f from (k ∷ ks) = step (f from) k (open_each f (from + 1) ks)
  where
    step : (v : Option Value) (k : Kept) → open_of (each_kept (λ o k. with_value k (f o)) (from + 1) ks) ≤ open_of ks
        → (if (with_value k v).current then 0 else 1) + open_of (each_kept (λ o k. with_value k (f o)) (from + 1) ks) ≤ (if k.current then 0 else 1) + open_of ks
    step None k le = omega arith
    step (Some value) k le = omega arith

open_one : (f : ℕ → Option Value) (from i : ℕ) (ks : List Kept) → i < length ks → (slice_index_or ks i unpriced).current ≡ false → is_some (f (from + i)) ≡ true
    → open_of (each_kept (λ o k. with_value k (f o)) from ks) + 1 ≤ open_of ks
open_one f from i [] within stale has = absurd (omega arith)
open_one f from zero (k ∷ ks) within stale has = step (f from) k.current k refl stale (open_each f (from + 1) ks) (let e : from + 0 ≡ from = omega arith in ap (λ (n : ℕ). is_some (f n)) (sym e) ∙ has)
  where
    step : (v : Option Value) (b : Bool) (k : Kept) → k.current ≡ b → b ≡ false → open_of (each_kept (λ o k. with_value k (f o)) (from + 1) ks) ≤ open_of ks → is_some v ≡ true
        → (if (with_value k v).current then 0 else 1) + open_of (each_kept (λ o k. with_value k (f o)) (from + 1) ks) + 1 ≤ (if b then 0 else 1) + open_of ks
    step None b k is off le has = absurd (cc)
    step (Some value) true k is off le has = absurd (cc)
    step (Some value) false k is off le has = omega arith
open_one f from (suc i) (k ∷ ks) within stale has =
    let e : from + suc i ≡ from + 1 + i = omega arith in
    step (f from) k (open_one f (from + 1) i ks (omega arith) stale (ap (λ (n : ℕ). is_some (f n)) (sym e) ∙ has))
  where
    step : (v : Option Value) (k : Kept) → open_of (each_kept (λ o k. with_value k (f o)) (from + 1) ks) + 1 ≤ open_of ks
        → (if (with_value k v).current then 0 else 1) + open_of (each_kept (λ o k. with_value k (f o)) (from + 1) ks) + 1 ≤ (if k.current then 0 else 1) + open_of ks
    step None k le = omega arith
    step (Some value) k le = omega arith

priced_refused : (calc : Calc) (m : Market) (o : ℕ) (terms : Option Terms) (r : Result (List input.Input) Cause) (cause : Cause)
    → refusal_of r ≡ Some cause → priced calc (reading_over m o terms r) ≡ Err cause
priced_refused calc m o terms (Ok inputs) cause e = absurd (cc)
priced_refused calc m o None (Err given) cause e = let same : given ≡ cause = cc in ap Err same
priced_refused calc m o (Some t) (Err given) cause e = let same : given ≡ cause = cc in ap Err same

-- what a walk that was answered showed
shown_value : (cause : Option Cause) (last : Option Value) (outcome : Outcome) → Shows cause last outcome → is_some cause ≡ false → (value : Value) × (outcome ≡ Ok value)
shown_value None None outcome shown none = absurd shown
shown_value None (Some value) outcome shown none = (value, shown)
shown_value (Some cause) last outcome shown none = absurd (false≢true (sym none))

shown_cause : (cause : Option Cause) (last : Option Value) (outcome : Outcome) → Shows cause last outcome → is_some cause ≡ true → (c : Cause) × (cause ≡ Some c) × (outcome ≡ Err c)
shown_cause None last outcome shown some = absurd (false≢true some)
shown_cause (Some cause) last outcome shown some = (cause, refl, shown)

not_none : (call : ℕ × Outcome) (more : List (ℕ × Outcome)) → call ∷ more ≡ [] → ⊥
not_none call more e = cc

-- what stands at each turn: the inputs that were asked for, and the walk that is left
pub record Settling (calc : Calc) (s : State) (o : ℕ) (count0 : ℕ) (log0 : Option (List (ℕ × Bool))) (kept : List Kept) (number count : ℕ) (log : Option (List (ℕ × Bool))) : Type 0 where
  pub may : MayAsk calc s o
  pub early : is_late s o ≡ false
  pub calls : List (ℕ × Outcome)
  pub stores : kept ≡ (stored s calls).kept
  pub closed : IsClosed calc s calls
  pub gets : (x : ℕ) → has_value calls x ≡ true → is_lazy (role_of (terms_at s.market x)) ≡ true
  pub own : has_value calls o ≡ false
  pub walk : settle_all (visit_by calc s (length s.market.objects)) calls (uses s.market o) ≡ inputs_walk calc s o
  pub counts : number ≡ length calls
  pub bound : number + open_of kept * 2 ^ 17 ≤ length kept * 2 ^ 17
  pub count_is : count ≡ counted count0 (length calls)
  pub log_is : log ≡ logged log0 (log_of calls)

module _ (calc : Calc) (s : State) (o : ℕ) (count0 : ℕ) (log0 : Option (List (ℕ × Bool))) where
  log_none : (log : Option (List (ℕ × Bool))) → log ≡ logged log []
  log_none None = refl
  log_none (Some entries) = ap Some (sym (append-nil entries))

  pub settling : MayAsk calc s o → is_late s o ≡ false → Settling calc s o count0 log0 s.kept 0 count0 log0
  unfolding stored inputs_walk
  settling may early = record {
    may = may;
    early = early;
    calls = [];
    stores = sym (each_id 0 s.kept);
    closed = λ x e. absurd (false≢true e);
    gets = λ x e. absurd (false≢true e);
    own = refl;
    walk = refl;
    counts = refl;
    bound = let le = open_le s.kept in omega arith;
    count_is = refl;
    log_is = log_none log0;
  }

  module _ (kept : List Kept) (number count : ℕ) (log : Option (List (ℕ × Bool))) (a : Settling calc s o count0 log0 kept number count log) where
    -- the test and the answers of the code are those of the definition
    step_is : next_of (is_at_hand kept) (answer_of kept) (uses s.market o) ≡ next_of (is_idle s a.calls) (answer_of kept) (uses s.market o)
    step_is = next_same (is_at_hand kept) (is_idle s a.calls) (answer_of kept) (uses s.market o) (λ y among. ap (λ (k : List Kept). is_at_hand k y) a.stores ∙ hand_idle calc s a.calls a.may.whole (fit_of calc s o a.may) a.closed o a.early y among)

    answers : Answers calc s (length s.market.objects) a.calls (answer_of kept) (uses s.market o)
    answers y among idle = ap (λ (k : List Kept). answer_of k y) a.stores ∙ (ready_then calc s a.may.whole a.calls a.closed (fit_of calc s o a.may) a.may.sound.current o y a.early among idle).1

    -- there are few computations
    pub settled_few : number < 2 ^ 34
    settled_few = let b = a.bound in let e = ap length a.stores in let f = stored_length s a.calls in let w = a.may.whole.length in let l = a.may.limit in omega arith

    -- what was computed so far may stand
    pub settled_stays : Stays calc (record s { kept = kept })
    unfolding stored
    settled_stays = subst (λ (k : List Kept). Stays calc (record s { kept = k })) (sym a.stores) (record {
      whole = whole_stored calc s a.may.whole a.calls a.closed (fit_of calc s o a.may) a.may.sound.current a.gets (values_of calc s o a.may);
      sound = sound_stored calc s a.calls a.may.whole a.closed (fit_of calc s o a.may) a.may.sound;
    })

    -- the calls so far are a front of all
    front_of : (later : List (ℕ × Outcome)) → Extends later (inputs_walk calc s o).calls → Extends later (reruns calc s o)
    unfolding reruns
    front_of later on = walk_extends (now calc s o) o later (inputs_walk calc s o) on

    on_calls : Extends a.calls (inputs_walk calc s o).calls
    on_calls = subst (λ (w : Walk). Extends a.calls w.calls) a.walk (settle_extends (visit_by calc s (length s.market.objects)) (visit_extends calc s (length s.market.objects)) a.calls (uses s.market o))

    pub not_late : least_source s o ≡ None
    not_late = none_of (least_source s o) (sym (late_least s a.may.whole o) ∙ a.early)

    -- memory ran out before a call
    pub stopped_before : RecalcStops calc o s (record s { kept = kept }) count0 count log0 log
    unfolding stored
    stopped_before = let on = front_of a.calls on_calls in record {
      early = not_late;
      front = a.calls;
      rest = on.0;
      whole = on.1;
      state = ap (λ (k : List Kept). record s { kept = k }) a.stores;
      own = ap (λ (k : List Kept). slice_index_or k o unpriced) a.stores ∙ stored_not s a.calls o a.own;
      count = inl a.count_is;
      log = a.log_is;
    }

    -- a refusal among the inputs ends it
    ends_refused : (later : List (ℕ × Outcome)) (cause : Cause) (after : List Kept) (answer : Asked) (count2 : ℕ) (log2 : Option (List (ℕ × Bool)))
        → inputs_walk calc s o ≡ record { calls = later; refusal = Some cause } → after ≡ (stored s later).kept → answer ≡ record { cause = Some cause; mark = Recalc; runs = length later }
        → count2 ≡ counted count0 (length later) → log2 ≡ logged log0 (log_of later) → Reprices calc o s after answer count0 count2 log0 log2
    unfolding reruns now inputs_walk
    ends_refused later cause after answer count2 log2 walk stores is counts logs =
        let run : reruns calc s o ≡ later = ap (λ (w : Walk). (settle_walk (now calc s o) o w).calls) walk in
        let inputs : (inputs_walk calc s o).calls ≡ later = ap (λ (w : Walk). w.calls) walk in
        let refused : refusal_of (inputs_by (seen_outcome calc s) (uses s.market o)) ≡ Some cause =
        sym (walk_refusal (visit_by calc s (length s.market.objects)) (seen_outcome calc s) (visit_outcome calc s a.may.whole.links (length s.market.objects)) [] (uses s.market o)) ∙ ap (λ (w : Walk). w.refusal) walk in
        subst (λ (b : Asked). Reprices calc o s after b count0 count2 log0 log2) (sym is) (record {
          price = (
            priced_refused calc s.market o (terms_at s.market o) (inputs_by (seen_outcome calc s) (uses s.market o)) cause refused,
            stores ∙ ap (λ (c : List (ℕ × Outcome)). (stored s c).kept) (sym inputs),
          );
          mark = refl;
          number = ap length (sym run);
          count = counts ∙ ap (λ (c : List (ℕ × Outcome)). counted count0 (length c)) (sym run);
          log = logs ∙ ap (λ (c : List (ℕ × Outcome)). logged log0 (log_of c)) (sym run);
        })

    -- an entry refuses
    pub settling_stops : (cause : Cause) (answer : Asked) → next_of (is_at_hand kept) (answer_of kept) (uses s.market o) ≡ Stops cause → answer ≡ record { cause = Some cause; mark = Recalc; runs = number }
        → Reprices calc o s kept answer count0 count log0 log
    settling_stops cause answer next is =
        ends_refused a.calls cause kept answer count log (sym a.walk ∙ walk_stops calc s (length s.market.objects) a.calls (answer_of kept) cause (uses s.market o) answers (sym step_is ∙ next))
        a.stores (is ∙ ap (λ (n : ℕ). record { cause = Some cause; mark = Recalc; runs = n }) a.counts) a.count_is a.log_is

    -- all inputs are at hand
    module _ (inputs : List input.Input) (next : next_of (is_at_hand kept) (answer_of kept) (uses s.market o) ≡ Ready inputs) where
      all_ready : (settle_all (visit_by calc s (length s.market.objects)) a.calls (uses s.market o) ≡ record { calls = a.calls; refusal = None }) × (inputs_by (seen_outcome calc s) (uses s.market o) ≡ Ok inputs)
      all_ready = walk_ready calc s (length s.market.objects) a.calls (answer_of kept) inputs (uses s.market o) answers (sym step_is ∙ next)

      walk_is : inputs_walk calc s o ≡ record { calls = a.calls; refusal = None }
      walk_is = sym a.walk ∙ all_ready.0

      -- the inputs are those that the terms ask for
      pub settled_fits : (terms : Terms) → terms_at s.market o ≡ Some terms → IsWellFormed (reading_at s.market o terms inputs)
      settled_fits terms there = well_formed s.market a.may.kinds (seen_outcome calc s) (values_of calc s o a.may) o terms inputs (subst IsRanged there (a.may.ranged o)) (subst (AreOfKind s.market) there (a.may.kinds o))
          (subst (λ (t : Option Terms). is_lazy (role_of t) ≡ true) there a.may.lazy)
          (subst (λ (t : Option Terms). inputs_by (seen_outcome calc s) (uses_of (input_at s.market) s.market o t) ≡ Ok inputs) there all_ready.1)

      price_is : (terms : Terms) → terms_at s.market o ≡ Some terms → now calc s o ≡ calc (reading_at s.market o terms inputs)
      unfolding now
      price_is terms there = ap (λ (r : Result (List input.Input) Cause). priced calc (reading_over s.market o (terms_at s.market o) r)) all_ready.1
          ∙ ap (λ (t : Option Terms). priced calc (reading_over s.market o t (Ok inputs))) there

      run_is : reruns calc s o ≡ a.calls ++ (o, now calc s o) ∷ []
      unfolding reruns
      run_is = ap (λ (w : Walk). (settle_walk (now calc s o) o w).calls) walk_is

      -- the object is computed
      pub settling_ends : (after : List Kept) (cause : Option Cause) (answer : Asked) (count2 : ℕ) (log2 : Option (List (ℕ × Bool))) → Computes calc s.market o inputs kept after cause count count2 log log2
          → answer ≡ record { cause = cause; mark = Recalc; runs = number + 1 } → Reprices calc o s after answer count0 count2 log0 log2
      settling_ends after cause answer count2 log2 c is =
          let t = lazy_terms (terms_at s.market o) a.may.lazy in
          let long = length-append a.calls ((o, now calc s o) ∷ []) in
          let run = ap length run_is in
          let n : number + 1 ≡ length (reruns calc s o) = (let k = a.counts in omega arith) in
          subst (λ (b : Asked). Reprices calc o s after b count0 count2 log0 log2) (sym is) (record {
            price = price cause (c.price t.0 t.1) (price_is t.0 t.1);
            mark = refl;
            number = n;
            count = c.count ∙ ap (λ (m : ℕ). counted m 1) a.count_is ∙ counted_more count0 (length a.calls) 1 ∙ ap (counted count0) (let k = a.counts in omega arith);
            log = c.log ∙ ap (λ (l : Option (List (ℕ × Bool))). logged l ((o, is_none cause) ∷ [])) a.log_is ∙ logged_more log0 (log_of a.calls) ((o, is_none cause) ∷ [])
                ∙ ap (logged log0) (ap (λ (b : Bool). log_of a.calls ++ (o, b) ∷ []) (word cause (c.price t.0 t.1) (price_is t.0 t.1)) ∙ sym (log_append a.calls ((o, now calc s o) ∷ []))) ∙ ap (λ (l : List (ℕ × Outcome)). logged log0 (log_of l)) (sym run_is);
          })
        where
          inputs_kept : kept ≡ with_inputs calc s o
          inputs_kept = a.stores ∙ ap (λ (w : Walk). (stored s w.calls).kept) (sym walk_is)

          price : (cause : Option Cause) → IsComputed calc (reading_at s.market o (lazy_terms (terms_at s.market o) a.may.lazy).0 inputs) o kept after cause
              → now calc s o ≡ calc (reading_at s.market o (lazy_terms (terms_at s.market o) a.may.lazy).0 inputs) → IsRepriced calc o s after cause
          price None p same = (p.0, same ∙ p.1, p.2 ∙ ap (λ (k : List Kept). slice_set k o (with_value (slice_index_or k o unpriced) (Some p.0))) inputs_kept)
          price (Some cause) p same = (same ∙ p.0, p.1 ∙ inputs_kept)

          word : (cause : Option Cause) → IsComputed calc (reading_at s.market o (lazy_terms (terms_at s.market o) a.may.lazy).0 inputs) o kept after cause
              → now calc s o ≡ calc (reading_at s.market o (lazy_terms (terms_at s.market o) a.may.lazy).0 inputs) → is_none cause ≡ is_ok (now calc s o)
          word None p same = sym (ap is_ok (same ∙ p.1))
          word (Some cause) p same = sym (ap is_ok (same ∙ p.0))

      -- the bench ran out of memory
      pub stopped_at_price : (after : List Kept) (count2 : ℕ) (log2 : Option (List (ℕ × Bool))) → after ≡ kept → count2 ≡ counted count 1 → log2 ≡ log → RecalcStops calc o s (record s { kept = after }) count0 count2 log0 log2
      unfolding stored
      stopped_at_price after count2 log2 same once logs = record {
        early = not_late;
        front = a.calls;
        rest = (o, now calc s o) ∷ [];
        whole = run_is;
        state = ap (λ (k : List Kept). record s { kept = k }) (same ∙ a.stores);
        own = ap (λ (k : List Kept). slice_index_or k o unpriced) (same ∙ a.stores) ∙ stored_not s a.calls o a.own;
        count = inr (not_none (o, now calc s o) [], once ∙ ap (λ (n : ℕ). counted n 1) a.count_is ∙ counted_more count0 (length a.calls) 1);
        log = logs ∙ a.log_is;
      }

    -- an input is asked for
    module _ (y : ℕ) (next : next_of (is_at_hand kept) (answer_of kept) (uses s.market o) ≡ First y) where
      first : next_of (is_idle s a.calls) (answer_of kept) (uses s.market o) ≡ First y
      first = sym step_is ∙ next

      busy : (is_idle s a.calls y ≡ false) × Among y (needs s.market o)
      busy = first_busy calc s (length s.market.objects) a.calls (answer_of kept) y (uses s.market o) first

      free : (held_outcome s y ≡ None) × ((kept_at s y).current ≡ false) × (has_value a.calls y ≡ false)
      free = not_idle s a.calls y busy.0

      pub needed_lazy : is_lazy_at s.market y ≡ true
      needed_lazy = needs_lazy s.market a.may.kinds o y busy.1

      pub needed_free : held_outcome (record s { kept = kept }) y ≡ None
      unfolding stored
      needed_free = ap (λ (k : List Kept). held_outcome (record s { kept = k }) y) a.stores ∙ held_then calc s a.may.whole a.calls a.closed y ∙ free.0

      pub needed_stale : is_now kept y ≡ false
      needed_stale = ap (λ (k : List Kept). is_now k y) a.stores ∙ ap (λ (k : Kept). k.current) (stored_not s a.calls y free.2) ∙ free.1

      pub needed_may : MayAsk calc (record s { kept = kept }) y
      needed_may = record {
        whole = settled_stays.whole;
        sound = settled_stays.sound;
        kinds = a.may.kinds;
        ranged = a.may.ranged;
        lazy = needed_lazy;
        fits = a.may.fits;
        limit = a.may.limit;
      }

      fall : (ranks_of s.market a.may.whole.links).0 y < (ranks_of s.market a.may.whole.links).0 o
      fall = needs_fall s.market (ranks_of s.market a.may.whole.links).0 (ranks_of s.market a.may.whole.links).1 o y busy.1

      low : (ranks_of s.market a.may.whole.links).0 y < length s.market.objects
      low = let f = fall in let l = (ranks_of s.market a.may.whole.links).2 o in omega arith

      visit : Visit
      visit = visit_by calc s (length s.market.objects) a.calls y

      goes : GoesOn calc s a.calls (visit_by calc s (length s.market.objects) a.calls y) y
      goes = visit_goes calc s a.may.whole.links (length s.market.objects) y low a.calls a.closed

      visit_is : visit_by calc s (length s.market.objects) a.calls y ≡ resumed_visit a.calls (visit_by calc (stored s a.calls) (suc (length s.market.objects)) [] y)
      visit_is =
          let l = low in
          visit_steps calc s (ranks_of s.market a.may.whole.links).0 (ranks_of s.market a.may.whole.links).1 (length s.market.objects) (suc (length s.market.objects)) y low (omega arith) a.calls
          ∙ ap (λ (c : List (ℕ × Outcome)). visit_by calc s (suc (length s.market.objects)) c y) (sym (append-nil a.calls))
          ∙ visit_then calc s a.may.whole a.calls a.closed (suc (length s.market.objects)) [] y

      -- the calls of the input follow
      calls_are : (visit_by calc s (length s.market.objects) a.calls y).calls ≡ a.calls ++ runs calc (stored s a.calls) y
      unfolding runs stored
      calls_are = ap (λ (v : Visit). v.calls) visit_is

      outcome_is : (visit_by calc s (length s.market.objects) a.calls y).outcome ≡ seen_outcome calc s y
      outcome_is = visit_outcome calc s a.may.whole.links (length s.market.objects) a.calls y

      walk_then : inputs_walk calc s o ≡ after_visit (visit_by calc s (length s.market.objects) a.calls y).calls (visit_by calc s (length s.market.objects) a.calls y).outcome (λ later. settle_all (visit_by calc s (length s.market.objects)) later (uses s.market o))
      walk_then = sym a.walk ∙ walk_first calc s (length s.market.objects) a.calls (answer_of kept) y (uses s.market o) answers first (λ value e. (
        (λ z idle. idle_grows s a.calls (visit_by calc s (length s.market.objects) a.calls y).calls z goes.grows idle),
        goes.idle value e,
        sym outcome_is ∙ e,
      ))

      on_visit : Extends (visit_by calc s (length s.market.objects) a.calls y).calls (inputs_walk calc s o).calls
      on_visit = subst (λ (w : Walk). Extends (visit_by calc s (length s.market.objects) a.calls y).calls w.calls) (sym walk_then) (by_outcome (visit_by calc s (length s.market.objects) a.calls y).outcome)
        where
          by_outcome : (r : Outcome) → Extends (visit_by calc s (length s.market.objects) a.calls y).calls (after_visit (visit_by calc s (length s.market.objects) a.calls y).calls r (λ later. settle_all (visit_by calc s (length s.market.objects)) later (uses s.market o))).calls
          by_outcome (Ok value) = settle_extends (visit_by calc s (length s.market.objects)) (visit_extends calc s (length s.market.objects)) (visit_by calc s (length s.market.objects) a.calls y).calls (uses s.market o)
          by_outcome (Err cause) = ([], sym (append-nil _))

      own_then : has_value (visit_by calc s (length s.market.objects) a.calls y).calls o ≡ false
      own_then = visit_low calc s (ranks_of s.market a.may.whole.links).0 (ranks_of s.market a.may.whole.links).1 o (length s.market.objects) y fall a.calls ∙ a.own

      then_linked : IsLinked (stored s a.calls).market
      unfolding stored
      then_linked = a.may.whole.links

      -- no object gets a value twice
      apart : (x : ℕ) → has_value a.calls x ≡ true → has_value (runs calc (stored s a.calls) y) x ≡ false
      apart x has = elim (cases_Bool (has_value (runs calc (stored s a.calls) y) x)) [
        | inr none ↦ none
        | inl again ↦ absurd (false≢true (sym (runs_closed calc (stored s a.calls) then_linked y x again).stale ∙ ap (λ (k : Kept). k.current) (got calc s a.may.whole a.calls a.closed x has)))
      ]

      -- the state after the ask of the input
      module _ (new : List Kept) (answer : Asked) (count2 : ℕ) (log2 : Option (List (ℕ × Bool))) (w : Walks calc y (record s { kept = kept }) (record s { kept = new }) Recalc answer count count2 log log2) where
        then_state : record s { kept = kept } ≡ stored s a.calls
        unfolding stored
        then_state = ap (λ (k : List Kept). record s { kept = k }) a.stores

        new_is : new ≡ (stored s (visit_by calc s (length s.market.objects) a.calls y).calls).kept
        unfolding asked
        new_is = ap (λ (t : State). t.kept) (w.state ∙ ap (λ (t : State). stored t (runs calc t y)) then_state
            ∙ stored_twice s a.calls (runs calc (stored s a.calls) y) apart ∙ ap (stored s) (sym calls_are))

        runs_are : length a.calls + answer.runs ≡ length (visit_by calc s (length s.market.objects) a.calls y).calls
        runs_are =
            let n = w.number ∙ ap (λ (t : State). length (runs calc t y)) then_state in
            let l = length-append a.calls (runs calc (stored s a.calls) y) in
            let c = ap length calls_are in omega arith

        count_then : count2 ≡ counted count0 (length (visit_by calc s (length s.market.objects) a.calls y).calls)
        count_then = w.count ∙ ap (λ (n : ℕ). counted n (length (runs calc (record s { kept = kept }) y))) a.count_is
            ∙ counted_more count0 (length a.calls) (length (runs calc (record s { kept = kept }) y))
            ∙ ap (counted count0) (ap (λ (n : ℕ). length a.calls + n) (sym w.number) ∙ runs_are)

        log_then : log2 ≡ logged log0 (log_of (visit_by calc s (length s.market.objects) a.calls y).calls)
        log_then = w.log ∙ ap (λ (l : Option (List (ℕ × Bool))). logged l (log_of (runs calc (record s { kept = kept }) y))) a.log_is
            ∙ logged_more log0 (log_of a.calls) (log_of (runs calc (record s { kept = kept }) y))
            ∙ ap (logged log0) (ap (λ (t : State). log_of a.calls ++ log_of (runs calc t y)) then_state ∙ sym (log_append a.calls (runs calc (stored s a.calls) y)))
            ∙ ap (λ (c : List (ℕ × Outcome)). logged log0 (log_of c)) (sym calls_are)

        seen_is : seen_outcome calc (record s { kept = kept }) y ≡ seen_outcome calc s y
        seen_is = ap (λ (t : State). seen_outcome calc t y) then_state ∙ seen_then calc s a.may.whole a.calls a.closed y

        lazy_then : (x : ℕ) → has_value (visit_by calc s (length s.market.objects) a.calls y).calls x ≡ true → is_lazy (role_of (terms_at s.market x)) ≡ true
        lazy_then x has = elim (or_cases (has_value a.calls x) _ (sym (has_append a.calls (runs calc (stored s a.calls) y) x) ∙ ap (λ (c : List (ℕ × Outcome)). has_value c x) (sym calls_are) ∙ has)) [
          | inl was ↦ a.gets x was
          | inr is ↦ runs_lazy calc (record s { kept = kept }) (λ z x among. needs_lazy s.market a.may.kinds z x among) y needed_lazy x (ap (λ (t : State). has_value (runs calc t y) x) then_state ∙ is)
        ]

        -- the input has its value
        pub settling_on : is_some answer.cause ≡ false → answer.runs < 2 ^ 17 → Settling calc s o count0 log0 new (number + answer.runs) count2 log2 × (open_of new + 1 ≤ open_of kept)
        unfolding stored asked
        settling_on none few =
            let value = shown_value answer.cause _ _ w.shown none in
            let is : seen_outcome calc s y ≡ Ok value.0 = sym seen_is ∙ value.1 in
            let fewer = fewer_open value.0 is in
            let long = ap length new_is ∙ stored_length s (visit_by calc s (length s.market.objects) a.calls y).calls in
            let same = ap length a.stores ∙ stored_length s a.calls in (
              record {
                may = a.may;
                early = a.early;
                calls = (visit_by calc s (length s.market.objects) a.calls y).calls;
                stores = new_is;
                closed = goes.closed;
                gets = lazy_then;
                own = own_then;
                walk = sym (walk_then ∙ ap (λ (r : Outcome). after_visit (visit_by calc s (length s.market.objects) a.calls y).calls r (λ later. settle_all (visit_by calc s (length s.market.objects)) later (uses s.market o))) (outcome_is ∙ is));
                counts = ap (λ (n : ℕ). n + answer.runs) a.counts ∙ runs_are;
                bound = let b = a.bound in omega arith;
                count_is = count_then;
                log_is = log_then;
              },
              fewer,
            )
          where
            fewer_open : (value : Value) → seen_outcome calc s y ≡ Ok value → open_of new + 1 ≤ open_of kept
            fewer_open value is =
                let state : new ≡ (stored (record s { kept = kept }) (runs calc (record s { kept = kept }) y)).kept = ap (λ (t : State). t.kept) w.state in
                let idle = runs_idle calc (record s { kept = kept }) a.may.whole.links y value (seen_is ∙ is) in
                let has = or_false (kept_at (record s { kept = kept }) y).current _ (or_false (is_some (held_outcome (record s { kept = kept }) y)) _ idle (ap is_some needed_free)) needed_stale in
                let within : y < length kept = (let l = lazy_within s.market y needed_lazy in let e = a.may.whole.length in let f = ap length a.stores in let g = stored_length s a.calls in omega arith) in
                let at_y : 0 + y ≡ y = omega arith in
                let one = open_one (value_among (runs calc (record s { kept = kept }) y)) 0 y kept within needed_stale (ap (has_value (runs calc (record s { kept = kept }) y)) at_y ∙ has) in
                subst (λ (k : List Kept). open_of k + 1 ≤ open_of kept) (sym state) one

        -- the input refused
        pub settling_refused : is_some answer.cause ≡ true → (said : Asked) → said ≡ record { cause = answer.cause; mark = Recalc; runs = number + answer.runs } → Reprices calc o s new said count0 count2 log0 log2
        settling_refused some said is =
            let cause = shown_cause answer.cause _ _ w.shown some in
            let refused : seen_outcome calc s y ≡ Err cause.0 = sym seen_is ∙ cause.2 in
            ends_refused (visit_by calc s (length s.market.objects) a.calls y).calls cause.0 new said count2 log2
            (walk_then ∙ ap (λ (r : Outcome). after_visit (visit_by calc s (length s.market.objects) a.calls y).calls r (λ later. settle_all (visit_by calc s (length s.market.objects)) later (uses s.market o))) (outcome_is ∙ refused))
            new_is
            (is ∙ ap (λ (c : Option Cause). record { cause = c; mark = Recalc; runs = number + answer.runs }) cause.1 ∙ ap (λ (n : ℕ). record { cause = Some cause.0; mark = Recalc; runs = n }) (ap (λ (n : ℕ). n + answer.runs) a.counts ∙ runs_are))
            count_then log_then

      -- memory ran out within the ask of the input
      pub stopped_within : (new : List Kept) (count2 : ℕ) (log2 : Option (List (ℕ × Bool))) → asks.Stops calc y (record s { kept = kept }) (record s { kept = new }) count count2 log log2 → RecalcStops calc o s (record s { kept = new }) count0 count2 log0 log2
      unfolding stored
      stopped_within new count2 log2 stops = record {
        early = not_late;
        front = a.calls ++ stops.front;
        rest = stops.rest ++ (front_of _ on_visit).0;
        whole = whole_is;
        state = state_is;
        own = ap (λ (t : State). kept_at t o) state_is ∙ stored_not s (a.calls ++ stops.front) o own_front;
        count = count_is stops.count;
        log = stops.log ∙ ap (λ (l : Option (List (ℕ × Bool))). logged l (log_of stops.front)) a.log_is ∙ logged_more log0 (log_of a.calls) (log_of stops.front) ∙ ap (logged log0) (sym (log_append a.calls stops.front));
      }
        where
          first_none : (xs ys : List (ℕ × Outcome)) → xs ++ ys ≡ [] → xs ≡ []
          first_none [] ys e = refl
          first_none (x ∷ xs) ys e = absurd (cc)

          here : record s { kept = kept } ≡ stored s a.calls
          here = ap (λ (k : List Kept). record s { kept = k }) a.stores

          runs_is : runs calc (stored s a.calls) y ≡ stops.front ++ stops.rest
          runs_is = ap (λ (t : State). runs calc t y) (sym here) ∙ stops.whole

          whole_is : reruns calc s o ≡ (a.calls ++ stops.front) ++ (stops.rest ++ (front_of _ on_visit).0)
          whole_is = (front_of _ on_visit).1 ∙ ap (λ (c : List (ℕ × Outcome)). c ++ (front_of _ on_visit).0) (calls_are ∙ ap (λ (c : List (ℕ × Outcome)). a.calls ++ c) runs_is ∙ sym (append_assoc a.calls stops.front stops.rest))
              ∙ append_assoc (a.calls ++ stops.front) stops.rest (front_of _ on_visit).0

          apart_front : (x : ℕ) → has_value a.calls x ≡ true → has_value stops.front x ≡ false
          apart_front x has = (or_parts (has_value stops.front x) _ (sym (has_append stops.front stops.rest x) ∙ ap (λ (c : List (ℕ × Outcome)). has_value c x) (sym runs_is) ∙ apart x has)).0

          state_is : record s { kept = new } ≡ stored s (a.calls ++ stops.front)
          state_is = stops.state ∙ ap (λ (t : State). stored t stops.front) here ∙ stored_twice s a.calls stops.front apart_front

          own_front : has_value (a.calls ++ stops.front) o ≡ false
          own_front = (or_parts (has_value (a.calls ++ stops.front) o) _ (sym (has_append (a.calls ++ stops.front) stops.rest o)
              ∙ ap (λ (c : List (ℕ × Outcome)). has_value c o) (append_assoc a.calls stops.front stops.rest ∙ ap (λ (c : List (ℕ × Outcome)). a.calls ++ c) (sym runs_is) ∙ sym calls_are) ∙ own_then)).0

          count_is : ((count2 ≡ counted count (length stops.front)) ⊎ ((stops.rest ≢ []) × (count2 ≡ counted count (length stops.front + 1))))
              → (count2 ≡ counted count0 (length (a.calls ++ stops.front))) ⊎ ((stops.rest ++ (front_of _ on_visit).0 ≢ []) × (count2 ≡ counted count0 (length (a.calls ++ stops.front) + 1)))
          count_is (inl is) = inl (is ∙ ap (λ (n : ℕ). counted n (length stops.front)) a.count_is ∙ counted_more count0 (length a.calls) (length stops.front) ∙ ap (counted count0) (sym (length-append a.calls stops.front)))
          count_is (inr is) = inr (
            (λ none. is.0 (first_none stops.rest (front_of _ on_visit).0 none)),
            is.1 ∙ ap (λ (n : ℕ). counted n (length stops.front + 1)) a.count_is ∙ counted_more count0 (length a.calls) (length stops.front + 1)
                ∙ ap (counted count0) (let l = length-append a.calls stops.front in omega arith),
          )
