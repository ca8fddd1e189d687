-- The loop of an ask by an explicit stack.
use Rattle.std.proofs.Common.{◌≡◌, ◌≢◌, ◌⊎◌, inl, inr, ℕ, zero, suc, ◌+◌, ◌<◌, ◌≤◌, ◌^◌, Bool, true, false, List, [], ◌∷◌, ◌++◌, length, reverse, Option, Some, None, Ok, Err, refl, sym, ◌∙◌, ap, subst, arith}
use Rattle.std.specs.Prelude.{◌||◌, ◌&&◌, ◌==◌, is_some, is_ok, if◌then◌else◌, slice_index_or, slice_set}
use Rattle.std.proofs.lemmas.List.{append-nil, append_assoc, length-reverse, length-append, length-set}
use Rattle.std.proofs.lemmas.Bool.{cases_Bool, eqb-true, ne_eqb, eq-eqb, or_from, or_right, false≢true}
use Rattle.walks.specs.Walk.{Among}
use Rattle.desk_terms.specs.declared.terms.Terms.{Terms}
use Rattle.desk_terms.specs.declared.value.Value.{Value}
use Rattle.desk_terms.specs.declared.value.Input as input
use Rattle.desk_terms.specs.declared.cause.Cause.{Cause}
use Rattle.desk_terms.specs.declared.asked.Asked.{Asked}
use Rattle.desk_terms.specs.declared.asked.Mark.{Mark}
use Rattle.desk_terms.specs.Asked.{Shows}
use Rattle.desk_terms.specs.Reading.{Outcome, Calc, IsWellFormed}
use Rattle.desk_terms.specs.Bench.{counted, logged}
use Rattle.desk_model.specs.declared.kept.Kept.{Kept}
use Rattle.desk_model.specs.declared.entry.Entry.{Entry}
use Rattle.desk_model.specs.declared.entry.Entry.TheVariants.{Gives, Needs, Refuses}
use Rattle.desk_model.specs.declared.entry.Next.{Next}
use Rattle.desk_model.specs.declared.entry.Next.TheVariants.{Ready, First, Stops}
use Rattle.desk_model.specs.Market.{terms_at, role_of, is_lazy}
use Rattle.desk_model.specs.Uses.{input_at, uses_of, uses, needed, needs, reading_at}
use Rattle.desk_model.specs.Fresh.{inputs_by, reading_over, priced}
use Rattle.desk_model.specs.Links.{AreOfKind, is_lazy_at, IsRanged, IsWhole}
use Rattle.desk_model.specs.Laws.{AreValues}
use Rattle.desk_model.proofs.Valued.{seen_values}
use Rattle.desk_model.specs.State.{State, kept_at, unpriced, last_of, held_outcome, seen_outcome, each_kept, is_frozen, is_late}
use Rattle.desk_model.specs.Visit.{Visit, log_of, value_among, has_value, is_idle, with_value, or_value, stored, visit_by, runs, asked}
use Rattle.desk_model.specs.Next.{and_next, and_answer, next_of}
use Rattle.desk_model.proofs.Bounds.{Ranks, ranks_of}
use Rattle.desk_model.proofs.Locality.{needs_near, needs_fall}
use Rattle.desk_model.proofs.Wants.{well_formed, needs_lazy}
use Rattle.desk_model.proofs.Watchers.{thawed_forwarder}
use Rattle.desk_model.proofs.Shown.{HoldsFit, holds_fit, early_of, shows_last}
use Rattle.desk_model.proofs.Visits.{IsClosed, has_more, value_more, has_last, none_of, not_idle, idle_grows, grows_more, visit_outcome}
use Rattle.desk_model.proofs.Asked.{stored_not, stored_length, got, sound_stored, whole_stored, ready_then, idle_current, asked_last}
use Rattle.desk_model.proofs.Steps.{finish, Answers, first_busy, walk_ready}
use Rattle.desk_model.proofs.Finish.{finish_all, finish_push, finish_value, finish_fault, finish_stop}
use Rattle.desk_model.proofs.Changes.{lazy_within}
use Rattle.object_store.specs.Slots.{is_now, answer_of, is_at_hand}
use Rattle.ask_walk.specs.Asks.{Walks, MayAsk, Stays, Computes}
use Rattle.ask_walk.proofs.Stacks.{Rising, rising_length, turned}
use Rattle.ask_walk.proofs.Extends.{finish_extends}

-- how many values are not current
abbrev pub open_of : List Kept → ℕ
open_of [] = 0
open_of (k ∷ ks) = (if k.current then 0 else 1) + open_of ks

pub open_le : (ks : List Kept) → open_of ks ≤ length ks
open_le [] = omega arith
open_le (k ∷ ks) = step k.current (open_le ks)
  where
    step : (b : Bool) → open_of ks ≤ length ks → (if b then 0 else 1) + open_of ks ≤ suc (length ks)
    step true l = omega arith
    step false l = omega arith

pub open_set : (ks : List Kept) (i : ℕ) (k : Kept) → i < length ks → (slice_index_or ks i unpriced).current ≡ false → k.current ≡ true → open_of (slice_set ks i k) + 1 ≡ open_of ks
open_set [] i k within stale current = absurd (omega arith)
open_set (j ∷ ks) zero k within stale current = step k.current j.current current stale
  where
    step : (a b : Bool) → a ≡ true → b ≡ false → (if a then 0 else 1) + open_of ks + 1 ≡ (if b then 0 else 1) + open_of ks
    step true false e f = omega arith
    step true true e f = absurd (cc)
    step false b e f = absurd (cc)
open_set (j ∷ ks) (suc i) k within stale current = let e = open_set ks i k (omega arith) stale current in omega arith

pub each_same : (f g : ℕ → Kept → Kept) (from : ℕ) (ks : List Kept) → ((o : ℕ) (k : Kept) → from ≤ o → f o k ≡ g o k) → each_kept f from ks ≡ each_kept g from ks
each_same f g from [] same = refl
each_same f g from (k ∷ ks) same = ap (λ (h : Kept). h ∷ each_kept f (from + 1) ks) (same from k (omega arith)) ∙ ap (λ (t : List Kept). g from k ∷ t) (each_same f g (from + 1) ks (λ o k le. same o k (omega arith)))

each_set : (f g : ℕ → Kept → Kept) (from i : ℕ) (ks : List Kept) (k : Kept) → i < length ks → ((o : ℕ) (k : Kept) → o ≢ from + i → f o k ≡ g o k) → g (from + i) (slice_index_or ks i unpriced) ≡ k → each_kept g from ks ≡ slice_set (each_kept f from ks) i k
each_set f g from i [] k within same here = absurd (omega arith)
each_set f g from zero (j ∷ ks) k within same here =
    let e : from + 0 ≡ from = omega arith in
    ap (λ (h : Kept). h ∷ each_kept g (from + 1) ks) (ap (λ (n : ℕ). g n j) (sym e) ∙ here)
    ∙ ap (λ (t : List Kept). k ∷ t) (sym (each_same f g (from + 1) ks (λ o k le. same o k (λ (is : o ≡ from + 0). omega arith))))
each_set f g from (suc i) (j ∷ ks) k within same here =
    let e : from + suc i ≡ from + 1 + i = omega arith in
    ap (λ (h : Kept). h ∷ each_kept g (from + 1) ks) (sym (same from j (λ (is : from ≡ from + suc i). omega arith)))
    ∙ ap (λ (t : List Kept). f from j ∷ t) (each_set f g (from + 1) i ks k (omega arith) (λ o k apart. same o k (λ (is : o ≡ from + suc i). apart (is ∙ e))) (ap (λ (n : ℕ). g n (slice_index_or ks i unpriced)) (sym e) ∙ here))

or_none : (v : Option Value) → or_value v None ≡ v
or_none None = refl
or_none (Some value) = refl

or_neither : (v : Option Value) (b : Bool) → or_value v (if b then None else None) ≡ v
or_neither v true = or_none v
or_neither v false = or_none v

-- what is stored after one value more
pub stored_more : (s : State) (calls : List (ℕ × Outcome)) (x : ℕ) (value : Value) → x < length s.kept → has_value calls x ≡ false
    → (stored s (calls ++ (x, Ok value) ∷ [])).kept ≡ slice_set (stored s calls).kept x (with_value (slice_index_or (stored s calls).kept x unpriced) (Some value))
unfolding stored
stored_more s calls x value within none =
    each_set (λ o kept. with_value kept (value_among calls o)) (λ o kept. with_value kept (value_among (calls ++ (x, Ok value) ∷ []) o)) 0 x s.kept (with_value (slice_index_or s.kept x unpriced) (Some value)) within
    (λ o k apart. ap (with_value k) (sym (value_more calls x o (Ok value) ∙ ap (λ (b : Bool). or_value (value_among calls o) (if b then Some value else None)) (ne_eqb x o (λ (same : x ≡ o). apart (sym same ∙ (let e : x ≡ 0 + x = omega arith in e)))) ∙ or_none (value_among calls o))))
    (let e : 0 + x ≡ x = omega arith in ap (λ (n : ℕ). with_value (slice_index_or s.kept x unpriced) (value_among (calls ++ (x, Ok value) ∷ []) n)) e
    ∙ ap (with_value (slice_index_or s.kept x unpriced)) (value_more calls x x (Ok value) ∙ ap (λ (v : Option Value). or_value v (if x == x then Some value else None)) (none_of (value_among calls x) none) ∙ ap (λ (b : Bool). if b then Some value else None) (eq-eqb x x refl)))
    ∙ ap (λ (k : Kept). slice_set (stored s calls).kept x (with_value k (Some value))) (sym (stored_not s calls x none))

-- a refused call stores nothing
stored_fault : (s : State) (calls : List (ℕ × Outcome)) (x : ℕ) (cause : Cause) → (stored s calls).kept ≡ (stored s (calls ++ (x, Err cause) ∷ [])).kept
unfolding stored
stored_fault s calls x cause = each_same (λ o kept. with_value kept (value_among calls o)) (λ o kept. with_value kept (value_among (calls ++ (x, Err cause) ∷ []) o)) 0 s.kept
    (λ o k le. ap (with_value k) (sym (value_more calls x o (Err cause) ∙ or_neither (value_among calls o) (x == o))))

log_more : (calls : List (ℕ × Outcome)) (x : ℕ) (r : Outcome) → log_of (calls ++ (x, r) ∷ []) ≡ log_of calls ++ (x, is_ok r) ∷ []
log_more [] x r = refl
log_more (call ∷ calls) x r = ap (λ (l : List (ℕ × Bool)). (call.0, is_ok call.1) ∷ l) (log_more calls x r)

-- tests that agree on what is needed give the same step
pub next_same : (f g : ℕ → Bool) (answer : ℕ → Outcome) (entries : List Entry) → ((x : ℕ) → Among x (needed entries) → f x ≡ g x) → next_of f answer entries ≡ next_of g answer entries
next_same f g answer [] same = refl
next_same f g answer (Gives rate ∷ entries) same = ap (and_next (input.TheVariants.Rate rate)) (next_same f g answer entries same)
next_same f g answer (Needs x ∷ entries) same =
    ap (λ (b : Bool). if b then and_answer (answer x) (next_of f answer entries) else First x) (same x (inl refl))
    ∙ ap (λ (n : Next). if g x then and_answer (answer x) n else First x) (next_same f g answer entries (λ y among. same y (inr among)))
next_same f g answer (Refuses cause ∷ entries) same = refl

-- a lazy object has terms
pub lazy_terms : (t : Option Terms) → is_lazy (role_of t) ≡ true → (terms : Terms) × (t ≡ Some terms)
lazy_terms None is = absurd (cc)
lazy_terms (Some terms) is = (terms, refl)

-- what stands at each turn of the loop: what was computed, and what is still to be finished, the last of the stack first
pub record Asking (calc : Calc) (s : State) (o : ℕ) (count0 : ℕ) (log0 : Option (List (ℕ × Bool))) (stack : List ℕ) (kept : List Kept) (number count : ℕ) (log : Option (List (ℕ × Bool))) : Type 0 where
  pub may : MayAsk calc s o
  pub free : held_outcome s o ≡ None
  pub ranks : Ranks s.market
  pub calls : List (ℕ × Outcome)
  pub stores : kept ≡ (stored s calls).kept
  pub closed : IsClosed calc s calls
  pub gets : (x : ℕ) → has_value calls x ≡ true → is_lazy (role_of (terms_at s.market x)) ≡ true
  pub rest : finish calc s o (reverse stack) calls ≡ visit_by calc s (suc (length s.market.objects)) [] o
  pub busy : (x : ℕ) → Among x (reverse stack) → is_idle s calls x ≡ false
  pub lazy : (x : ℕ) → Among x (reverse stack) → is_lazy (role_of (terms_at s.market x)) ≡ true
  pub rising : Rising ranks.0 (reverse stack)
  pub root : Among o (reverse stack) ⊎ (is_idle s calls o ≡ true)
  pub counts : number ≡ length calls
  pub bound : number + open_of kept ≤ length kept
  pub count_is : count ≡ counted count0 (length calls)
  pub log_is : log ≡ logged log0 (log_of calls)

some_none : {A : Type 0} {a : A} → Some a ≡ None → ⊥
some_none e = cc

or_no : (a b : Bool) → b ≡ false → (a || b) ≡ a
or_no true b e = refl
or_no false b e = e

-- Beneath an object that is not late, what is at hand then is idle: it was frozen or current, or got a value.
pub hand_idle : (calc : Calc) (s : State) (calls : List (ℕ × Outcome)) → IsWhole s → HoldsFit s → IsClosed calc s calls → (top : ℕ) → is_late s top ≡ false → (y : ℕ) → Among y (needs s.market top)
    → is_at_hand (stored s calls).kept y ≡ is_idle s calls y
unfolding is_frozen is_at_hand
hand_idle calc s calls whole fit closed top early y among = elim (cases_Bool (has_value calls y)) [
  | inl has ↦ ap (λ (k : Kept). k.current || k.frozen) (got calc s whole calls closed y has)
      ∙ sym (or_right (is_some (held_outcome s y)) _ (or_right (kept_at s y).current (has_value calls y) has))
  | inr none ↦ ap (λ (k : Kept). k.current || k.frozen) (stored_not s calls y none) ∙ by_frozen none (cases_Bool (kept_at s y).frozen)
]
  where
    by_frozen : has_value calls y ≡ false → (((kept_at s y).frozen ≡ true) ⊎ ((kept_at s y).frozen ≡ false))
        → ((kept_at s y).current || (kept_at s y).frozen) ≡ (is_some (held_outcome s y) || ((kept_at s y).current || has_value calls y))
    by_frozen none (inl frozen) = or_right (kept_at s y).current (kept_at s y).frozen frozen
        ∙ sym (ap (λ (h : Option Outcome). is_some h || ((kept_at s y).current || has_value calls y)) (fit.frozen y frozen))
    by_frozen none (inr thawed) = or_no (kept_at s y).current (kept_at s y).frozen thawed ∙ sym (or_no (kept_at s y).current (has_value calls y) none)
        ∙ sym (ap (λ (h : Option Outcome). is_some h || ((kept_at s y).current || has_value calls y)) (fit.above top y early (needs_near s.market top y among) thawed))

-- what is seen of an object is a value that it may have
pub values_of : (calc : Calc) (s : State) (o : ℕ) → MayAsk calc s o → AreValues s.market (seen_outcome calc s)
values_of calc s o may = seen_values calc may.fits s may.whole may.kinds may.ranged

pub fit_of : (calc : Calc) (s : State) (o : ℕ) → MayAsk calc s o → HoldsFit s
fit_of calc s o may = holds_fit s may.whole.links (thawed_forwarder s may.whole)

-- an object that is current and not held has a last value
pub current_last : (calc : Calc) (s : State) (o : ℕ) → MayAsk calc s o → held_outcome s o ≡ None → (kept_at s o).current ≡ true → (value : Value) × ((kept_at s o).last ≡ Some value)
current_last calc s o may not_held current = elim (may.sound.current o current) [
  | inl source ↦ absurd ((fit_of calc s o may).source o source not_held)
  | inr priced ↦ (priced.value, priced.last)
]

pub each_id : (from : ℕ) (ks : List Kept) → each_kept (λ o kept. kept) from ks ≡ ks
each_id from [] = refl
each_id from (k ∷ ks) = ap (λ (t : List Kept). k ∷ t) (each_id (from + 1) ks)

-- there are few computations
pub few : (calc : Calc) (s : State) (o count0 : ℕ) (log0 : Option (List (ℕ × Bool))) (stack : List ℕ) (kept : List Kept) (number count : ℕ) (log : Option (List (ℕ × Bool))) → Asking calc s o count0 log0 stack kept number count log → number + 1 < 2 ^ 17
few calc s o count0 log0 stack kept number count log a = let b = a.bound in let e = ap length a.stores in let f = stored_length s a.calls in let w = a.may.whole.length in let l = a.may.limit in omega arith

module _ (calc : Calc) (s : State) (o : ℕ) (count0 : ℕ) (log0 : Option (List (ℕ × Bool))) where
  -- the loop begins
  pub begins : MayAsk calc s o → held_outcome s o ≡ None → (kept_at s o).current ≡ false → Asking calc s o count0 log0 (o ∷ []) s.kept 0 count0 log0
  unfolding stored
  begins may not_held stale = record {
    may = may;
    free = not_held;
    ranks = ranks_of s.market may.whole.links;
    calls = [];
    stores = sym (stored_none s);
    closed = λ x e. absurd (cc);
    gets = λ x e. absurd (cc);
    rest = finish_all calc s may.whole.links o;
    busy = λ x among. busy_first x among;
    lazy = λ x among. lazy_first x among;
    rising = ((λ y among. absurd among), tt);
    root = inl (inl refl);
    counts = refl;
    bound = let le = open_le s.kept in omega arith;
    count_is = refl;
    log_is = log_none log0;
  }
    where
      stored_none : (s : State) → (stored s []).kept ≡ s.kept
      stored_none s = each_id 0 s.kept

      busy_first : (x : ℕ) → Among x (o ∷ []) → is_idle s [] x ≡ false
      busy_first x (inl same) = ap (is_idle s []) same ∙ ap (λ (h : Option Outcome). is_some h || ((kept_at s o).current || false)) not_held ∙ or_from (kept_at s o).current false stale refl
      busy_first x (inr none) = absurd none

      lazy_first : (x : ℕ) → Among x (o ∷ []) → is_lazy (role_of (terms_at s.market x)) ≡ true
      lazy_first x (inl same) = subst (λ (z : ℕ). is_lazy (role_of (terms_at s.market z)) ≡ true) (sym same) may.lazy
      lazy_first x (inr none) = absurd none

      log_none : (log : Option (List (ℕ × Bool))) → log ≡ logged log []
      log_none None = refl
      log_none (Some entries) = ap Some (sym (append-nil entries))

  module _ (stack : List ℕ) (top : ℕ) (kept : List Kept) (number count : ℕ) (log : Option (List (ℕ × Bool))) (a : Asking calc s o count0 log0 (stack ++ top ∷ []) kept number count log) where
    rest_top : finish calc s o (top ∷ reverse stack) a.calls ≡ visit_by calc s (suc (length s.market.objects)) [] o
    rest_top = ap (λ (l : List ℕ). finish calc s o l a.calls) (sym (turned stack top)) ∙ a.rest

    busy_of : (x : ℕ) → Among x (top ∷ reverse stack) → is_idle s a.calls x ≡ false
    busy_of x among = a.busy x (subst (Among x) (sym (turned stack top)) among)

    pub top_lazy : is_lazy (role_of (terms_at s.market top)) ≡ true
    top_lazy = a.lazy top (subst (Among top) (sym (turned stack top)) (inl refl))

    rising_of : Rising a.ranks.0 (top ∷ reverse stack)
    rising_of = subst (Rising a.ranks.0) (turned stack top) a.rising

    -- the test and the answers of the code are those of the definition
    top_early : is_late s top ≡ false
    top_early = early_of s top (not_idle s a.calls top (busy_of top (inl refl))).0

    step_is : next_of (is_at_hand kept) (answer_of kept) (uses s.market top) ≡ next_of (is_idle s a.calls) (answer_of kept) (uses s.market top)
    step_is = next_same (is_at_hand kept) (is_idle s a.calls) (answer_of kept) (uses s.market top) (λ y among. ap (λ (k : List Kept). is_at_hand k y) a.stores ∙ hand_idle calc s a.calls a.may.whole (fit_of calc s o a.may) a.closed top top_early y among)

    answers : Answers calc s (length s.market.objects) a.calls (answer_of kept) (uses s.market top)
    answers y among idle = ap (λ (k : List Kept). answer_of k y) a.stores ∙ (ready_then calc s a.may.whole a.calls a.closed (fit_of calc s o a.may) a.may.sound.current top y top_early among idle).1

    -- an object that is needed is pushed
    pub pushes : (y : ℕ) → next_of (is_at_hand kept) (answer_of kept) (uses s.market top) ≡ First y → Asking calc s o count0 log0 ((stack ++ top ∷ []) ++ y ∷ []) kept number count log
    pushes y next =
        let first = sym step_is ∙ next in
        let b = first_busy calc s (length s.market.objects) a.calls (answer_of kept) y (uses s.market top) first in
        let turn : reverse ((stack ++ top ∷ []) ++ y ∷ []) ≡ y ∷ top ∷ reverse stack = turned (stack ++ top ∷ []) y ∙ ap (λ (l : List ℕ). y ∷ l) (turned stack top) in
        record {
          may = a.may;
          free = a.free;
          ranks = a.ranks;
          calls = a.calls;
          stores = a.stores;
          closed = a.closed;
          gets = a.gets;
          rest = ap (λ (l : List ℕ). finish calc s o l a.calls) turn ∙ finish_push calc s a.may.whole.links a.calls a.closed (answer_of kept) o top (reverse stack) (busy_of top (inl refl)) answers y first ∙ rest_top;
          busy = λ x among. busy_more y b.0 x (subst (Among x) turn among);
          lazy = λ x among. lazy_more y b.1 x (subst (Among x) turn among);
          rising = subst (Rising a.ranks.0) (sym turn) ((λ z among. lower y b.1 z among), rising_of);
          root = root_more y turn a.root;
          counts = a.counts;
          bound = a.bound;
          count_is = a.count_is;
          log_is = a.log_is;
        }
      where
        root_more : (y : ℕ) → reverse ((stack ++ top ∷ []) ++ y ∷ []) ≡ y ∷ top ∷ reverse stack → (Among o (reverse (stack ++ top ∷ [])) ⊎ (is_idle s a.calls o ≡ true)) → Among o (reverse ((stack ++ top ∷ []) ++ y ∷ [])) ⊎ (is_idle s a.calls o ≡ true)
        root_more y turn (inl among) = inl (subst (Among o) (sym turn) (inr (subst (Among o) (turned stack top) among)))
        root_more y turn (inr idle) = inr idle

        busy_more : (y : ℕ) → is_idle s a.calls y ≡ false → (x : ℕ) → Among x (y ∷ top ∷ reverse stack) → is_idle s a.calls x ≡ false
        busy_more y b x (inl same) = subst (λ (z : ℕ). is_idle s a.calls z ≡ false) (sym same) b
        busy_more y b x (inr among) = busy_of x among

        lazy_more : (y : ℕ) → Among y (needs s.market top) → (x : ℕ) → Among x (y ∷ top ∷ reverse stack) → is_lazy (role_of (terms_at s.market x)) ≡ true
        lazy_more y need x (inl same) = subst (λ (z : ℕ). is_lazy (role_of (terms_at s.market z)) ≡ true) (sym same) (needs_lazy s.market a.may.kinds top y need)
        lazy_more y need x (inr among) = a.lazy x (subst (Among x) (sym (turned stack top)) among)

        lower : (y : ℕ) → Among y (needs s.market top) → (z : ℕ) → Among z (top ∷ reverse stack) → a.ranks.0 y < a.ranks.0 z
        lower y need z (inl same) = let fall = needs_fall s.market a.ranks.0 a.ranks.1 top y need in subst (λ (w : ℕ). a.ranks.0 y < a.ranks.0 w) (sym same) fall
        lower y need z (inr among) = let fall = needs_fall s.market a.ranks.0 a.ranks.1 top y need in let up = rising_of.0 z among in omega arith

    counted_more : (count0 n : ℕ) → counted (counted count0 n) 1 ≡ counted count0 (n + 1)
    counted_more count0 n = let e : n + 1 ≡ suc n = omega arith in rw e refl

    logged_more : (log0 : Option (List (ℕ × Bool))) (calls more : List (ℕ × Bool)) → logged (logged log0 calls) more ≡ logged log0 (calls ++ more)
    logged_more None calls more = refl
    logged_more (Some log) calls more = ap Some (append_assoc log calls more)

    top_new : has_value a.calls top ≡ false
    top_new = (not_idle s a.calls top (busy_of top (inl refl))).2

    -- the object on top is not current
    pub top_stale : (slice_index_or kept top unpriced).current ≡ false
    top_stale = ap (λ (k : List Kept). is_now k top) a.stores ∙ ap (λ (k : Kept). k.current) (stored_not s a.calls top top_new) ∙ (not_idle s a.calls top (busy_of top (inl refl))).1

    thawed : (kept_at s top).frozen ≡ false
    unfolding is_frozen
    thawed = elim (cases_Bool (kept_at s top).frozen) [
      | inl frozen ↦ absurd (some_none (sym ((fit_of calc s o a.may).frozen top frozen) ∙ (not_idle s a.calls top (busy_of top (inl refl))).0))
      | inr is ↦ is
    ]

    -- the object on top is not at hand
    pub top_busy : is_at_hand kept top ≡ false
    unfolding is_at_hand
    top_busy = ap (λ (k : List Kept). is_at_hand k top) a.stores ∙ ap (λ (k : Kept). k.current || k.frozen) (stored_not s a.calls top top_new)
        ∙ or_no (kept_at s top).current (kept_at s top).frozen thawed ∙ (not_idle s a.calls top (busy_of top (inl refl))).1

    pub top_within : top < length kept
    top_within = let e = ap length a.stores in let f = stored_length s a.calls in let w = a.may.whole.length in let t = lazy_within s.market top top_lazy in omega arith

    -- an object with a value is finished
    pub values : (inputs : List input.Input) (terms : Terms) (value : Value) → next_of (is_at_hand kept) (answer_of kept) (uses s.market top) ≡ Ready inputs → terms_at s.market top ≡ Some terms
        → calc (reading_at s.market top terms inputs) ≡ Ok value
        → Asking calc s o count0 log0 stack (slice_set kept top (with_value (slice_index_or kept top unpriced) (Some value))) (number + 1) (counted count 1) (logged log ((top, true) ∷ []))
    values inputs terms value next there price =
        let f = finish_value calc s a.may.whole.links a.calls a.closed (answer_of kept) o top (reverse stack) (busy_of top (inl refl)) answers inputs value (sym step_is ∙ next) (ap (λ (t : Option Terms). priced calc (reading_over s.market top t (Ok inputs))) there ∙ price) in
        let opens = open_set kept top (with_value (slice_index_or kept top unpriced) (Some value)) top_within top_stale refl in
        let long = length-append a.calls ((top, Ok value) ∷ []) in
        record {
          may = a.may;
          free = a.free;
          ranks = a.ranks;
          calls = a.calls ++ (top, Ok value) ∷ [];
          stores = ap (λ (k : List Kept). slice_set k top (with_value (slice_index_or k top unpriced) (Some value))) a.stores ∙ sym (stored_more s a.calls top value (let e = ap length a.stores in let l = stored_length s a.calls in let w = top_within in omega arith) top_new);
          closed = f.1;
          gets = λ x has. still_lazy x (has_value a.calls x) refl has;
          rest = sym f.0 ∙ rest_top;
          busy = λ x among. still_busy x among;
          lazy = λ x among. a.lazy x (subst (Among x) (sym (turned stack top)) (inr among));
          rising = rising_of.1;
          root = root_less a.root;
          counts = let c = a.counts in omega arith;
          bound = let b = a.bound in let l = length-set kept top (with_value (slice_index_or kept top unpriced) (Some value)) in omega arith;
          count_is = ap (λ (n : ℕ). counted n 1) a.count_is ∙ counted_more count0 (length a.calls) ∙ ap (counted count0) (sym long);
          log_is = ap (λ (l : Option (List (ℕ × Bool))). logged l ((top, true) ∷ [])) a.log_is ∙ logged_more log0 (log_of a.calls) ((top, true) ∷ []) ∙ ap (logged log0) (sym (log_more a.calls top (Ok value)));
        }
      where
        root_less : (Among o (reverse (stack ++ top ∷ [])) ⊎ (is_idle s a.calls o ≡ true)) → Among o (reverse stack) ⊎ (is_idle s (a.calls ++ (top, Ok value) ∷ []) o ≡ true)
        root_less (inr idle) = inr (idle_grows s a.calls (a.calls ++ (top, Ok value) ∷ []) o (grows_more a.calls top (Ok value)) idle)
        root_less (inl among) = elim (Among_cons (subst (Among o) (turned stack top) among)) [
          | inl same ↦ inr (or_right (is_some (held_outcome s o)) _ (or_right (kept_at s o).current _ (ap (has_value (a.calls ++ (top, Ok value) ∷ [])) same ∙ has_last a.calls top (Ok value) refl)))
          | inr more ↦ inl more
        ]
          where
            Among_cons : Among o (top ∷ reverse stack) → (o ≡ top) ⊎ Among o (reverse stack)
            Among_cons x = x

        still_lazy : (x : ℕ) (b : Bool) → has_value a.calls x ≡ b → has_value (a.calls ++ (top, Ok value) ∷ []) x ≡ true → is_lazy (role_of (terms_at s.market x)) ≡ true
        still_lazy x true before has = a.gets x before
        still_lazy x false before has =
            let same : top ≡ x = eqb-true top x (sym (has_more a.calls top x (Ok value) ∙ ap (λ (b : Bool). b || (true && (top == x))) before) ∙ has) in
            ap (λ (z : ℕ). is_lazy (role_of (terms_at s.market z))) (sym same) ∙ top_lazy

        still_busy : (x : ℕ) → Among x (reverse stack) → is_idle s (a.calls ++ (top, Ok value) ∷ []) x ≡ false
        still_busy x among =
            let up = rising_of.0 x among in
            let other : (top == x) ≡ false = ne_eqb top x (λ (same : top ≡ x). let e = ap a.ranks.0 same in omega arith) in
            ap (λ (b : Bool). is_some (held_outcome s x) || ((kept_at s x).current || b)) (has_more a.calls top x (Ok value) ∙ or_no (has_value a.calls x) (top == x) other) ∙ busy_of x (inr among)

    -- how the ask ends with a refusal
    ends_with : (calls : List (ℕ × Outcome)) (cause : Cause) (after : List Kept) (given : Mark) (answer : Asked) (counted_now : ℕ) (logged_now : Option (List (ℕ × Bool)))
        → visit_by calc s (suc (length s.market.objects)) [] o ≡ record { calls = calls; outcome = Err cause }
        → after ≡ (stored s calls).kept → answer ≡ record { cause = Some cause; mark = given; runs = length calls } → counted_now ≡ counted count0 (length calls) → logged_now ≡ logged log0 (log_of calls)
        → Walks calc o s (record s { kept = after }) given answer count0 counted_now log0 logged_now
    unfolding runs asked stored
    ends_with calls cause after given answer counted_now logged_now visit stores is counts logs =
        let run : runs calc s o ≡ calls = ap (λ (v : Visit). v.calls) visit in
        let sees : seen_outcome calc s o ≡ Err cause = sym (visit_outcome calc s a.may.whole.links (suc (length s.market.objects)) [] o) ∙ ap (λ (v : Visit). v.outcome) visit in
        record {
          state = ap (λ (k : List Kept). record s { kept = k }) (stores ∙ ap (λ (c : List (ℕ × Outcome)). (stored s c).kept) (sym run));
          shown = subst (λ (b : Asked). Shows b.cause (kept_at (record s { kept = after }) o).last (seen_outcome calc s o)) (sym is) sees;
          mark = ap (λ (b : Asked). b.mark) is;
          number = ap (λ (b : Asked). b.runs) is ∙ ap length (sym run);
          count = counts ∙ ap (λ (c : List (ℕ × Outcome)). counted count0 (length c)) (sym run);
          log = logs ∙ ap (λ (c : List (ℕ × Outcome)). logged log0 (log_of c)) (sym run);
        }

    -- there is one computation more at least
    pub goes_on : (inputs : List input.Input) (terms : Terms) → next_of (is_at_hand kept) (answer_of kept) (uses s.market top) ≡ Ready inputs → terms_at s.market top ≡ Some terms
        → (call : ℕ × Outcome) × (more : List (ℕ × Outcome)) × (runs calc s o ≡ a.calls ++ call ∷ more)
    unfolding runs
    goes_on inputs terms next there = by_price (calc (reading_at s.market top terms inputs)) refl
      where
        by_price : (r : Outcome) → calc (reading_at s.market top terms inputs) ≡ r → (call : ℕ × Outcome) × (more : List (ℕ × Outcome)) × ((visit_by calc s (suc (length s.market.objects)) [] o).calls ≡ a.calls ++ call ∷ more)
        by_price (Ok value) price =
            let f = finish_value calc s a.may.whole.links a.calls a.closed (answer_of kept) o top (reverse stack) (busy_of top (inl refl)) answers inputs value (sym step_is ∙ next) (ap (λ (t : Option Terms). priced calc (reading_over s.market top t (Ok inputs))) there ∙ price) in
            let e = finish_extends calc s o (reverse stack) (a.calls ++ (top, Ok value) ∷ []) in
            ((top, Ok value), e.0, ap (λ (v : Visit). v.calls) (sym rest_top ∙ f.0) ∙ e.1 ∙ append_assoc a.calls ((top, Ok value) ∷ []) e.0)
        by_price (Err cause) price =
            let f = finish_fault calc s a.may.whole.links a.calls a.closed (answer_of kept) o top (reverse stack) (busy_of top (inl refl)) answers inputs cause (sym step_is ∙ next) (ap (λ (t : Option Terms). priced calc (reading_over s.market top t (Ok inputs))) there ∙ price) in
            ((top, Err cause), [], ap (λ (v : Visit). v.calls) (sym rest_top ∙ f))

    -- an entry refuses
    pub stops : (cause : Cause) (given : Mark) (answer : Asked) → next_of (is_at_hand kept) (answer_of kept) (uses s.market top) ≡ Stops cause → answer ≡ record { cause = Some cause; mark = given; runs = number }
        → Walks calc o s (record s { kept = kept }) given answer count0 count log0 log
    stops cause given answer next is =
        ends_with a.calls cause kept given answer count log (sym rest_top ∙ finish_stop calc s a.may.whole.links a.calls a.closed (answer_of kept) o top (reverse stack) (busy_of top (inl refl)) answers cause (sym step_is ∙ next))
        a.stores (is ∙ ap (λ (n : ℕ). record { cause = Some cause; mark = given; runs = n }) a.counts) a.count_is a.log_is

    -- the bench refuses
    pub faults : (inputs : List input.Input) (terms : Terms) (cause : Cause) (given : Mark) (answer : Asked) → next_of (is_at_hand kept) (answer_of kept) (uses s.market top) ≡ Ready inputs → terms_at s.market top ≡ Some terms
        → calc (reading_at s.market top terms inputs) ≡ Err cause → answer ≡ record { cause = Some cause; mark = given; runs = number + 1 }
        → Walks calc o s (record s { kept = kept }) given answer count0 (counted count 1) log0 (logged log ((top, false) ∷ []))
    faults inputs terms cause given answer next there price is =
        let long = length-append a.calls ((top, Err cause) ∷ []) in
        let more : number + 1 ≡ length (a.calls ++ (top, Err cause) ∷ []) = (let c = a.counts in omega arith) in
        ends_with (a.calls ++ (top, Err cause) ∷ []) cause kept given answer (counted count 1) (logged log ((top, false) ∷ []))
        (sym rest_top ∙ finish_fault calc s a.may.whole.links a.calls a.closed (answer_of kept) o top (reverse stack) (busy_of top (inl refl)) answers inputs cause (sym step_is ∙ next) (ap (λ (t : Option Terms). priced calc (reading_over s.market top t (Ok inputs))) there ∙ price))
        (a.stores ∙ stored_fault s a.calls top cause)
        (is ∙ ap (λ (n : ℕ). record { cause = Some cause; mark = given; runs = n }) more)
        (ap (λ (n : ℕ). counted n 1) a.count_is ∙ counted_more count0 (length a.calls) ∙ ap (counted count0) (sym long))
        (ap (λ (l : Option (List (ℕ × Bool))). logged l ((top, false) ∷ [])) a.log_is ∙ logged_more log0 (log_of a.calls) ((top, false) ∷ []) ∙ ap (logged log0) (sym (log_more a.calls top (Err cause))))

    -- the inputs are those that the terms ask for
    pub fits : (inputs : List input.Input) (terms : Terms) → next_of (is_at_hand kept) (answer_of kept) (uses s.market top) ≡ Ready inputs → terms_at s.market top ≡ Some terms → IsWellFormed (reading_at s.market top terms inputs)
    fits inputs terms next there =
        let w = walk_ready calc s (length s.market.objects) a.calls (answer_of kept) inputs (uses s.market top) answers (sym step_is ∙ next) in
        well_formed s.market a.may.kinds (seen_outcome calc s) (values_of calc s o a.may) top terms inputs (subst IsRanged there (a.may.ranged top)) (subst (AreOfKind s.market) there (a.may.kinds top)) (subst (λ (t : Option Terms). is_lazy (role_of t) ≡ true) there top_lazy)
        (subst (λ (t : Option Terms). inputs_by (seen_outcome calc s) (uses_of (input_at s.market) s.market top t) ≡ Ok inputs) there w.1)

    -- what a computation leaves
    pub faulted : (inputs : List input.Input) (after : List Kept) (cause : Option Cause) (number2 count2 : ℕ) (log2 : Option (List (ℕ × Bool))) (given : Mark) (answer : Asked) → next_of (is_at_hand kept) (answer_of kept) (uses s.market top) ≡ Ready inputs
        → Computes calc s.market top inputs kept after cause count count2 log log2 → is_some cause ≡ true → number2 ≡ number + 1 → answer ≡ record { cause = cause; mark = given; runs = number2 }
        → Walks calc o s (record s { kept = after }) given answer count0 count2 log0 log2
    faulted inputs after None number2 count2 log2 given answer next c is more said = absurd (false≢true is)
    faulted inputs after (Some cause) number2 count2 log2 given answer next c is more said =
        let t = lazy_terms (terms_at s.market top) top_lazy in
        let price = c.price t.0 t.1 in
        subst (λ (k : List Kept). Walks calc o s (record s { kept = k }) given answer count0 count2 log0 log2) (sym price.1)
        (subst (λ (n : ℕ). Walks calc o s (record s { kept = kept }) given answer count0 n log0 log2) (sym c.count)
        (subst (λ (l : Option (List (ℕ × Bool))). Walks calc o s (record s { kept = kept }) given answer count0 (counted count 1) log0 l) (sym c.log)
        (faults inputs t.0 cause given answer next t.1 price.0 (said ∙ ap (λ (n : ℕ). record { cause = Some cause; mark = given; runs = n }) more))))

    pub valued : (inputs : List input.Input) (after : List Kept) (cause : Option Cause) (number2 count2 : ℕ) (log2 : Option (List (ℕ × Bool))) → next_of (is_at_hand kept) (answer_of kept) (uses s.market top) ≡ Ready inputs
        → Computes calc s.market top inputs kept after cause count count2 log log2 → is_some cause ≡ false → number2 ≡ number + 1
        → Asking calc s o count0 log0 stack after number2 count2 log2 × (open_of after + 1 ≡ open_of kept)
    valued inputs after (Some cause) number2 count2 log2 next c is more = absurd (false≢true (sym is))
    valued inputs after None number2 count2 log2 next c is more =
        let t = lazy_terms (terms_at s.market top) top_lazy in
        let price = c.price t.0 t.1 in
        let k : Kept = with_value (slice_index_or kept top unpriced) (Some price.0) in (
          subst (λ (l : List Kept). Asking calc s o count0 log0 stack l number2 count2 log2) (sym price.2)
              (subst (λ (n : ℕ). Asking calc s o count0 log0 stack (slice_set kept top k) n count2 log2) (sym more)
              (subst (λ (n : ℕ). Asking calc s o count0 log0 stack (slice_set kept top k) (number + 1) n log2) (sym c.count)
              (subst (λ (l : Option (List (ℕ × Bool))). Asking calc s o count0 log0 stack (slice_set kept top k) (number + 1) (counted count 1) l) (sym c.log)
              (values inputs t.0 price.0 next t.1 price.1)))),
          ap (λ (l : List Kept). open_of l + 1) price.2 ∙ open_set kept top k top_within top_stale refl,
        )

    -- the stack is no longer than there are objects
    pub stack_bound : length stack + 1 ≤ suc (length s.market.objects)
    stack_bound =
        let l = rising_length a.ranks.0 (suc (length s.market.objects)) (reverse (stack ++ top ∷ [])) a.rising (λ y among. a.ranks.2 y) in
        let e = ap length (turned stack top) in
        let r = length-reverse stack in omega arith

  -- the loop ends with nothing left to finish
  pub ends : (kept : List Kept) (number count : ℕ) (log : Option (List (ℕ × Bool))) (given : Mark) (answer : Asked) → Asking calc s o count0 log0 [] kept number count log → answer ≡ record { cause = None; mark = given; runs = number }
      → Walks calc o s (record s { kept = kept }) given answer count0 count log0 log
  unfolding runs asked finish stored
  ends kept number count log given answer a is =
      let run : runs calc s o ≡ a.calls = ap (λ (v : Visit). v.calls) (sym a.rest) in
      let state : record s { kept = kept } ≡ asked calc o s = ap (λ (k : List Kept). record s { kept = k }) (a.stores ∙ ap (λ (c : List (ℕ × Outcome)). (stored s c).kept) (sym run)) in
      let value = root_value a.root in
      record {
        state = state;
        shown = subst (λ (b : Asked). Shows b.cause (kept_at (record s { kept = kept }) o).last (seen_outcome calc s o)) (sym is)
            (subst (λ (l : Option Value). Shows None l (seen_outcome calc s o)) (sym (ap (λ (t : State). (kept_at t o).last) state ∙ asked_last calc s o value.0 a.may.whole (fit_of calc s o a.may) a.may.sound.current a.free value.1)) value.1);
        mark = ap (λ (b : Asked). b.mark) is;
        number = ap (λ (b : Asked). b.runs) is ∙ a.counts ∙ ap length (sym run);
        count = a.count_is ∙ ap (λ (c : List (ℕ × Outcome)). counted count0 (length c)) (sym run);
        log = a.log_is ∙ ap (λ (c : List (ℕ × Outcome)). logged log0 (log_of c)) (sym run);
      }
    where
      root_value : (Among o [] ⊎ (is_idle s a.calls o ≡ true)) → (value : Value) × (seen_outcome calc s o ≡ Ok value)
      root_value (inl none) = absurd none
      root_value (inr idle) = elim (cases_Bool (has_value a.calls o)) [
        | inl has ↦ let r = a.closed o has in (r.value, r.seen)
        | inr none ↦
            let current = idle_current s a.calls o idle a.free none in
            let last = current_last calc s o a.may a.free current in
            (last.0, shows_last calc s a.may.whole.links (fit_of calc s o a.may) a.may.sound.current o current a.free ∙ ap (last_of o) last.1)
      ]

-- what was computed so far may stand
pub left : (calc : Calc) (s : State) (o count0 : ℕ) (log0 : Option (List (ℕ × Bool))) (stack : List ℕ) (kept : List Kept) (number count : ℕ) (log : Option (List (ℕ × Bool))) → Asking calc s o count0 log0 stack kept number count log → Stays calc (record s { kept = kept })
unfolding stored
left calc s o count0 log0 stack kept number count log a = subst (λ (k : List Kept). Stays calc (record s { kept = k })) (sym a.stores) (record {
  whole = whole_stored calc s a.may.whole a.calls a.closed (fit_of calc s o a.may) a.may.sound.current a.gets (values_of calc s o a.may);
  sound = sound_stored calc s a.calls a.may.whole a.closed (fit_of calc s o a.may) a.may.sound;
})

pub left_refused : (calc : Calc) (s : State) (x : ℕ) (inputs : List input.Input) (kept after : List Kept) (cause : Option Cause) (count count2 : ℕ) (log log2 : Option (List (ℕ × Bool))) → Stays calc (record s { kept = kept }) → is_lazy_at s.market x ≡ true
    → Computes calc s.market x inputs kept after cause count count2 log log2 → is_some cause ≡ true → Stays calc (record s { kept = after })
left_refused calc s x inputs kept after None count count2 log log2 stays lazy c is = absurd (false≢true is)
left_refused calc s x inputs kept after (Some cause) count count2 log log2 stays lazy c is = let t = lazy_terms (terms_at s.market x) lazy in subst (λ (k : List Kept). Stays calc (record s { kept = k })) (sym (c.price t.0 t.1).1) stays
