-- What was computed so far is a front of what the ask computes.
use Rattle.std.proofs.Common.{◌≡◌, inl, inr, ℕ, suc, ◌+◌, Bool, List, [], ◌∷◌, ◌++◌, length, reverse, Option, Some, Result, Ok, Err, refl, sym, ◌∙◌, ap, arith}
use Rattle.std.specs.Prelude.{OnErr}
use Rattle.desk_terms.specs.Reading.{Outcome, Calc}
use Rattle.desk_terms.specs.Bench.{counted}
use Rattle.desk_model.specs.declared.kept.Kept.{Kept}
use Rattle.desk_model.specs.Uses.{uses}
use Rattle.desk_model.specs.State.{State}
use Rattle.desk_model.specs.Visit.{Visit, stored, runs}
use Rattle.ask_walk.specs.Asks.{Stops}
use Rattle.ask_walk.proofs.Loop.{Asking, goes_on}
use Rattle.ask_walk.proofs.Extends.{Extends, finish_extends}
use Rattle.desk_terms.specs.declared.terms.Terms.{Terms}
use Rattle.desk_terms.specs.declared.value.Input as input
use Rattle.desk_model.specs.declared.entry.Next.TheVariants.{Ready}
use Rattle.desk_model.specs.Market.{terms_at}
use Rattle.desk_model.specs.Next.{next_of}
use Rattle.object_store.specs.Slots.{answer_of, is_at_hand}

-- what holds on every exit holds where memory ran out
pub on_err : {A E X : Type 0} (r : Result A E) → X → OnErr r X
on_err (Ok value) x = tt
on_err (Err fault) x = x

counted_once : (count0 n : ℕ) → counted (counted count0 n) 1 ≡ counted count0 (n + 1)
counted_once count0 n = let e : n + 1 ≡ suc n = omega arith in rw e refl

module _ (calc : Calc) (s : State) (o count0 : ℕ) (log0 : Option (List (ℕ × Bool))) (stack : List ℕ) (kept : List Kept) (number count : ℕ) (log : Option (List (ℕ × Bool))) (a : Asking calc s o count0 log0 stack kept number count log) where
  on : Extends a.calls (runs calc s o)
  unfolding runs
  on = let e = finish_extends calc s o (reverse stack) a.calls in (e.0, ap (λ (v : Visit). v.calls) (sym a.rest) ∙ e.1)

  pub stopped : Stops calc o s (record s { kept = kept }) count0 count log0 log
  unfolding stored
  stopped = record { front = a.calls; rest = on.0; whole = on.1; state = ap (λ (k : List Kept). record s { kept = k }) a.stores; count = inl a.count_is; log = a.log_is }

not_none : (call : ℕ × Outcome) (more : List (ℕ × Outcome)) → call ∷ more ≡ [] → ⊥
not_none call more e = absurd (cc)

module _ (calc : Calc) (s : State) (o count0 : ℕ) (log0 : Option (List (ℕ × Bool))) (stack : List ℕ) (top : ℕ) (kept : List Kept) (number count : ℕ) (log : Option (List (ℕ × Bool))) (a : Asking calc s o count0 log0 (stack ++ top ∷ []) kept number count log) where
  -- the bench ran out of memory in one call more
  pub stopped_in_bench : (inputs : List input.Input) (terms : Terms) (after : List Kept) (count2 : ℕ) (log2 : Option (List (ℕ × Bool))) → next_of (is_at_hand kept) (answer_of kept) (uses s.market top) ≡ Ready inputs → terms_at s.market top ≡ Some terms
      → after ≡ kept → count2 ≡ counted count 1 → log2 ≡ log → Stops calc o s (record s { kept = after }) count0 count2 log0 log2
  unfolding stored
  stopped_in_bench inputs terms after count2 log2 ready there same once logs =
      let on = goes_on calc s o count0 log0 stack top kept number count log a inputs terms ready there in
      record {
        front = a.calls;
        rest = on.0 ∷ on.1;
        whole = on.2;
        state = ap (λ (k : List Kept). record s { kept = k }) (same ∙ a.stores);
        count = inr (not_none on.0 on.1, once ∙ ap (λ (n : ℕ). counted n 1) a.count_is ∙ counted_once count0 (length a.calls));
        log = logs ∙ a.log_is;
      }
