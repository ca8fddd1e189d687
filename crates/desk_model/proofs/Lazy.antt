-- Only lazy objects get a value: after an ask the shape of a state is kept.
use Rattle.std.proofs.Common.{◌≡◌, ◌⊎◌, inl, inr, ℕ, zero, suc, Bool, true, false, List, [], ◌∷◌, length, Option, Some, None, Ok, Err, refl, sym, ◌∙◌, subst}
use Rattle.std.specs.Prelude.{◌==◌, is_ok, if◌then◌else◌}
use Rattle.std.proofs.lemmas.Bool.{or_cases, and_parts, eqb-true, false≢true}
use Rattle.walks.specs.Walk.{Among}
use Rattle.desk_terms.specs.declared.cause.Cause.{Cause}
use Rattle.desk_terms.specs.Reading.{Outcome, Calc}
use Rattle.desk_model.specs.declared.entry.Entry.{Entry}
use Rattle.desk_model.specs.declared.entry.Entry.TheVariants.{Gives, Needs, Refuses}
use Rattle.desk_model.specs.Market.{terms_at, role_of, is_lazy}
use Rattle.desk_model.specs.Uses.{uses, needed, needs}
use Rattle.desk_model.specs.State.{State, seen_outcome, now}
use Rattle.desk_model.specs.Links.{IsWhole}
use Rattle.desk_model.specs.Laws.{AreValues}
use Rattle.desk_model.specs.Visit.{Visit, has_value, after_visit, settle_all, settle, settle_walk, is_idle, visit_by, runs, asked}
use Rattle.desk_model.specs.Recalc.{inputs_walk}
use Rattle.desk_model.proofs.Visits.{has_more, runs_closed}
use Rattle.desk_model.proofs.Asked.{whole_stored}
use Rattle.desk_model.proofs.Shown.{HoldsFit}
use Rattle.desk_model.specs.Sound.{AreSound}

walk_gets : (P : ℕ → Type 0) (visit : List (ℕ × Outcome) → ℕ → Visit) (calls : List (ℕ × Outcome)) (entries : List Entry)
    → ((y : ℕ) → Among y (needed entries) → (calls : List (ℕ × Outcome)) (x : ℕ) → has_value (visit calls y).calls x ≡ true → (has_value calls x ≡ true) ⊎ P x)
    → (x : ℕ) → has_value (settle_all visit calls entries).calls x ≡ true → (has_value calls x ≡ true) ⊎ P x
walk_gets P visit calls [] each x e = inl e
walk_gets P visit calls (Gives i ∷ entries) each x e = walk_gets P visit calls entries each x e
walk_gets P visit calls (Refuses c ∷ entries) each x e = inl e
walk_gets P visit calls (Needs y ∷ entries) each x e = by_outcome (visit calls y).calls (visit calls y).outcome (each y (inl refl) calls x) (walk_gets P visit (visit calls y).calls entries (λ z among. each z (inr among)) x) e
  where
    by_outcome : (later : List (ℕ × Outcome)) (r : Outcome)
        → (has_value later x ≡ true → (has_value calls x ≡ true) ⊎ P x)
        → (has_value (settle_all visit later entries).calls x ≡ true → (has_value later x ≡ true) ⊎ P x)
        → has_value (after_visit later r (λ later. settle_all visit later entries)).calls x ≡ true
        → (has_value calls x ≡ true) ⊎ P x
    by_outcome later (Ok v) first rest e = elim (rest e) [ inl was ↦ first was | inr is ↦ inr is ]
    by_outcome later (Err c) first rest e = first e

module _ (calc : Calc) (s : State) (kinds : (o x : ℕ) → Among x (needs s.market o) → is_lazy (role_of (terms_at s.market x)) ≡ true) where
  visit_gets : (n o : ℕ) → is_lazy (role_of (terms_at s.market o)) ≡ true → (calls : List (ℕ × Outcome)) (x : ℕ)
      → has_value (visit_by calc s n calls o).calls x ≡ true
      → (has_value calls x ≡ true) ⊎ (is_lazy (role_of (terms_at s.market x)) ≡ true)
  unfolding visit_by
  visit_gets zero o lazy calls x e = inl e
  visit_gets (suc n) o lazy calls x e = by_idle (is_idle s calls o) (walk_gets (λ y. is_lazy (role_of (terms_at s.market y)) ≡ true) (visit_by calc s n) calls (uses s.market o) (λ y among. visit_gets n y (kinds o y among)) x) e
    where
      by_refusal : (later : List (ℕ × Outcome)) (refusal : Option Cause)
          → (has_value later x ≡ true → (has_value calls x ≡ true) ⊎ (is_lazy (role_of (terms_at s.market x)) ≡ true))
          → has_value (settle (now calc s o) o later refusal).calls x ≡ true
          → (has_value calls x ≡ true) ⊎ (is_lazy (role_of (terms_at s.market x)) ≡ true)
      by_refusal later (Some c) more e = more e
      by_refusal later None more e = elim (or_cases (has_value later x) _ (sym (has_more later o x (now calc s o)) ∙ e)) [
        | inl was ↦ more was
        | inr new ↦ inr (subst (λ (y : ℕ). is_lazy (role_of (terms_at s.market y)) ≡ true) (eqb-true o x (and_parts (is_ok (now calc s o)) (o == x) new).1) lazy)
      ]

      by_idle : (b : Bool)
          → (has_value (settle_all (visit_by calc s n) calls (uses s.market o)).calls x ≡ true → (has_value calls x ≡ true) ⊎ (is_lazy (role_of (terms_at s.market x)) ≡ true))
          → has_value (if b then record { calls = calls; outcome = seen_outcome calc s o } else settle_walk (now calc s o) o (settle_all (visit_by calc s n) calls (uses s.market o))).calls x ≡ true
          → (has_value calls x ≡ true) ⊎ (is_lazy (role_of (terms_at s.market x)) ≡ true)
      by_idle true more e = inl e
      by_idle false more e = by_refusal (settle_all (visit_by calc s n) calls (uses s.market o)).calls (settle_all (visit_by calc s n) calls (uses s.market o)).refusal more e

  pub runs_lazy : (o : ℕ) → is_lazy (role_of (terms_at s.market o)) ≡ true → (x : ℕ)
      → has_value (runs calc s o) x ≡ true → is_lazy (role_of (terms_at s.market x)) ≡ true
  unfolding runs
  runs_lazy o lazy x e = elim (visit_gets (suc (length s.market.objects)) o lazy [] x e) [ inl none ↦ absurd (false≢true none) | inr is ↦ is ]

  pub whole_asked : (o : ℕ) → is_lazy (role_of (terms_at s.market o)) ≡ true → IsWhole s → HoldsFit s → AreSound calc s
      → AreValues s.market (seen_outcome calc s) → IsWhole (asked calc o s)
  unfolding asked
  whole_asked o lazy whole fit sound values = whole_stored calc s whole (runs calc s o) (runs_closed calc s whole.links o) fit sound (runs_lazy o lazy) values

  -- the inputs of a recalculation are lazy
  pub inputs_lazy : (o x : ℕ) → has_value (inputs_walk calc s o).calls x ≡ true
      → is_lazy (role_of (terms_at s.market x)) ≡ true
  unfolding inputs_walk
  inputs_lazy o x e = elim (walk_gets (λ y. is_lazy (role_of (terms_at s.market y)) ≡ true) (visit_by calc s (length s.market.objects)) [] (uses s.market o) (λ y among. visit_gets (length s.market.objects) y (kinds o y among)) x e) [
    | inl none ↦ absurd (false≢true none)
    | inr is ↦ is
  ]
