-- Who has no registration left is taken out of the due, from the end.
use Rattle.std.proofs.Common.{◌≡◌, ◌≢◌, ℕ, zero, suc, ◌<◌, ◌≤◌, Bool, true, false, List, [], ◌∷◌, length, drop, get_or, refl, sym, ap, subst, ◌∙◌, arith}
use Rattle.std.specs.Prelude.{◌==◌, if◌then◌else◌}
use Rattle.std.specs.List.{filter, remove}
use Rattle.std.proofs.lemmas.Bool.{eqb-true, eqb-false, ne_eqb}
use Rattle.watch_rounds.specs.declared.rounds.DueWatcher.{DueWatcher}
use Rattle.watch_rounds.specs.Due.{without, AreAll, IsRising}
use Rattle.watch_rounds.specs.Round.{RoundsView, gone}
use Rattle.watch_rounds.proofs.Places.{all_map, all_at}
use Rattle.desk_model.specs.State.{State}
use Rattle.desk_model.specs.Told.{is_watching}
use Rattle.session_model.specs.Course.{undue}

without_none : (w : ℕ) (due : List DueWatcher) → AreAll (λ one. one.watcher ≢ w) due → without w due ≡ due
without_none w [] all = refl
without_none w (first ∷ rest) all = rw (ne_eqb first.watcher w all.0) (ap (λ (l : List DueWatcher). first ∷ l) (without_none w rest all.1))

-- a watcher that is due is so once
without_at : (due : List DueWatcher) (at : ℕ) (d : DueWatcher) → IsRising due → at < length due
    → without (get_or due at d).watcher due ≡ remove due at
without_at [] at d rising low = absurd (omega arith)
without_at (first ∷ rest) zero d rising low =
    by (first.watcher == first.watcher) refl
  where
    by : (b : Bool) → (first.watcher == first.watcher) ≡ b
        → (if b then without first.watcher rest else first ∷ without first.watcher rest) ≡ rest
    by true is = without_none first.watcher rest
        (all_map (λ one. first.watcher < one.watcher) (λ one. one.watcher ≢ first.watcher) (λ one less same. absurd (omega arith)) rest rising.0)
    by false is = absurd (eqb-false first.watcher first.watcher is refl)
without_at (first ∷ rest) (suc at) d rising low =
    let less = all_at (λ one. first.watcher < one.watcher) rest at d rising.0 (omega arith) in
    rw (ne_eqb first.watcher (get_or rest at d).watcher (λ same. absurd (omega arith)))
    (ap (λ (l : List DueWatcher). first ∷ l) (without_at rest at d rising.1 (omega arith)))

drop_removed : (due : List DueWatcher) (at : ℕ) → at < length due → drop at (remove due at) ≡ drop (suc at) due
drop_removed [] at low = absurd (omega arith)
drop_removed (first ∷ rest) zero low = refl
drop_removed (first ∷ rest) (suc at) low = drop_removed rest at (omega arith)

long_removed : (due : List DueWatcher) (at : ℕ) → at < length due → at ≤ length (remove due at)
long_removed [] at low = absurd (omega arith)
long_removed (first ∷ rest) zero low = omega arith
long_removed (first ∷ rest) (suc at) low = let more = long_removed rest at (omega arith) in omega arith

one_more : (Q : DueWatcher → Type 0) (due : List DueWatcher) (at : ℕ) (d : DueWatcher) → at < length due → Q (get_or due at d)
    → AreAll Q (drop (suc at) due) → AreAll Q (drop at due)
one_more Q [] at d low one all = absurd (omega arith)
one_more Q (first ∷ rest) zero d low one all = (one, all)
one_more Q (first ∷ rest) (suc at) d low one all = one_more Q rest at d (omega arith) one all

module _ (test : ℕ → Bool) where
  abbrev Passes : DueWatcher → Type 0
  Passes one = test one.watcher ≡ true

  -- all pass: nothing more is taken out
  pub all_pass : (due : List DueWatcher) → AreAll Passes due → filter (λ one. test one.watcher) due ≡ due
  all_pass [] all = refl
  all_pass (first ∷ rest) all = rw all.0 (ap (λ (l : List DueWatcher). first ∷ l) (all_pass rest all.1))

  pub fails : (w : ℕ) (due : List DueWatcher) → test w ≡ false
      → filter (λ one. test one.watcher) (without w due) ≡ filter (λ one. test one.watcher) due
  fails w [] not = refl
  fails w (first ∷ rest) not = by (fails w rest not) (first.watcher == w) refl
    where
      by : filter (λ one. test one.watcher) (without w rest) ≡ filter (λ one. test one.watcher) rest
          → (b : Bool) → (first.watcher == w) ≡ b
          → filter (λ one. test one.watcher) (if b then without w rest else first ∷ without w rest)
          ≡ filter (λ one. test one.watcher) (first ∷ rest)
      by more true is = more ∙ sym (rw (ap test (eqb-true first.watcher w is) ∙ not) refl)
      by more false is = ap (λ (l : List DueWatcher). if test first.watcher then first ∷ l else l) more

  pub passes : (due : List DueWatcher) (n k : ℕ) (d : DueWatcher) → n ≡ suc k → n ≤ length due → test (get_or due k d).watcher ≡ true
      → AreAll Passes (drop n due) → AreAll Passes (drop k due)
  passes due n k d is low one all =
      one_more Passes due k d (omega arith) one (subst (λ (m : ℕ). AreAll Passes (drop m due)) is all)

  pub goes : (due : List DueWatcher) (n k : ℕ) (d : DueWatcher) → n ≡ suc k → n ≤ length due → IsRising due
      → AreAll Passes (drop n due)
      → AreAll Passes (drop k (without (get_or due k d).watcher due)) × (k ≤ length (without (get_or due k d).watcher due))
  goes due n k d is low rising all =
      subst (λ (l : List DueWatcher). AreAll Passes (drop k l) × (k ≤ length l)) (sym (without_at due k d rising (omega arith))) (
        subst (AreAll Passes) (sym (drop_removed due k (omega arith))) (subst (λ (m : ℕ). AreAll Passes (drop m due)) is all),
        long_removed due k (omega arith),
      )

abbrev IsWatching : State → DueWatcher → Type 0
IsWatching state one = is_watching state one.watcher ≡ true

abbrev watching : State → List DueWatcher → List DueWatcher
watching state due = filter (λ one. is_watching state one.watcher) due

-- the others are as they were
abbrev others : RoundsView → RoundsView → Type 0
others old now = now ≡ record old { round = record old.round { due = now.round.due } }

module _ (state : State) (old now : RoundsView) (n k : ℕ) (entry : DueWatcher) (is : n ≡ suc k) (low : n ≤ length now.round.due)
    (here : entry ≡ get_or now.round.due k entry) (same : others old now) (kept : watching state now.round.due ≡ watching state old.round.due)
    (rest : AreAll (IsWatching state) (drop n now.round.due)) where
  pub step_kept : (w : ℕ) → w ≡ entry.watcher → is_watching state w ≡ true → AreAll (IsWatching state) (drop k now.round.due)
  step_kept w at on = passes (is_watching state) now.round.due n k entry is low
      (ap (λ (one : DueWatcher). is_watching state one.watcher) (sym here) ∙ ap (is_watching state) (sym at) ∙ on) rest

  pub step_gone : (new : RoundsView) (w : ℕ) → w ≡ entry.watcher → IsRising now.round.due → is_watching state w ≡ false
      → new ≡ record now { round = gone w now.round }
      → (k ≤ length new.round.due) × others old new × (watching state new.round.due ≡ watching state old.round.due)
      × AreAll (IsWatching state) (drop k new.round.due)
  step_gone new w named rising off at_w =
      let out = at_w ∙ ap (λ (v : ℕ). let z : RoundsView = record now { round = gone v now.round } in z) named in
      let due = ap (λ (v : RoundsView). v.round.due) out in
      let both = goes (is_watching state) now.round.due n k entry is low rising rest in
      let at : without (get_or now.round.due k entry).watcher now.round.due ≡ new.round.due =
      ap (λ (one : DueWatcher). without one.watcher now.round.due) (sym here) ∙ sym due in (
        subst (λ (l : List DueWatcher). k ≤ length l) at both.1,
        out ∙ ap (λ (v : RoundsView). let z : RoundsView = record v { round = record v.round { due = without entry.watcher now.round.due } } in z) same
            ∙ ap (λ (l : List DueWatcher). let z : RoundsView = record old { round = record old.round { due = l } } in z) (sym due),
        ap (watching state) due ∙ fails (is_watching state) entry.watcher now.round.due (ap (is_watching state) (sym named) ∙ off) ∙ kept,
        subst (λ (l : List DueWatcher). AreAll (IsWatching state) (drop k l)) at both.0,
      )

-- nobody is left to look at
pub step_end : (state : State) (old now : RoundsView) (n : ℕ) → n ≡ 0 → others old now
    → watching state now.round.due ≡ watching state old.round.due → AreAll (IsWatching state) (drop n now.round.due)
    → now ≡ record old { round = undue state old.round }
step_end state old now n is same kept rest =
    same ∙ ap (λ (l : List DueWatcher). let z : RoundsView = record old { round = record old.round { due = l } } in z)
    (sym (all_pass (is_watching state) now.round.due (subst (λ (m : ℕ). AreAll (IsWatching state) (drop m now.round.due)) is rest)) ∙ kept)
