-- One day more of a curve.
use Rattle.std.proofs.Common.{◌≡◌, ℕ, ℤ, suc, ◌+◌, ◌-◌, ◌<◌, ◌≤◌, List, [], ◌∷◌, ◌++◌, Option, None, Some, sym, ◌∙◌, ap, arith}
use Rattle.std.proofs.lemmas.List.{append_assoc}
use Rattle.curve_drawing.specs.Days.{next_day, day_then, days_on}

module _ (start last : ℤ) (every months more : ℕ) (some : 0 < more) where
  one_less : more ≡ suc (more - 1)
  one_less = omega (arith, some)

  next : (found : Option ℤ) → found ≡ next_day start last months
      → days_on start last every months more ≡ day_then found last (days_on start last every (months + every) (more - 1))
  unfolding days_on
  next found is =
      ap (days_on start last every months) one_less
      ∙ ap (λ (f : Option ℤ). day_then f last (days_on start last every (months + every) (more - 1))) (sym is)

  pub days_more : (day : ℤ) (old new whole : List ℤ) → Some day ≡ next_day start last months → new ≡ old ++ day ∷ []
      → old ++ days_on start last every months more ≡ whole
      → new ++ days_on start last every (months + every) (more - 1) ≡ whole
  days_more day old new whole found wrote so_far =
      let rest = days_on start last every (months + every) (more - 1) in
      ap (λ (l : List ℤ). l ++ rest) wrote
      ∙ append_assoc old (day ∷ []) rest
      ∙ ap (λ (l : List ℤ). old ++ l) (sym (next (Some day) found))
      ∙ so_far

  pub days_done : (old new whole : List ℤ) → None ≡ next_day start last months → new ≡ old ++ last ∷ []
      → old ++ days_on start last every months more ≡ whole → new ≡ whole
  days_done old new whole found wrote so_far =
      wrote ∙ ap (λ (l : List ℤ). old ++ l) (sym (next None found)) ∙ so_far

-- as many as there may be
pub days_end : (start last : ℤ) (every months more : ℕ) (old new whole : List ℤ) → more ≤ 0 → new ≡ old ++ last ∷ []
    → old ++ days_on start last every months more ≡ whole → new ≡ whole
unfolding days_on
days_end start last every months more old new whole none wrote so_far =
    wrote ∙ ap (λ (n : ℕ). old ++ days_on start last every months n) (let e : 0 ≡ more = omega (arith, none) in e) ∙ so_far
