-- One par rate more of a curve.
use Rattle.std.proofs.Common.{◌≡◌, ◌⊎◌, inl, inr, ℕ, ℤ, ◌+◌, ◌<◌, ◌≤◌, min, List, [], ◌∷◌, ◌++◌, length, get_or, drop, Result, Ok, Err, refl, sym, ◌∙◌, ap, arith}
use Rattle.std.proofs.lemmas.Bool.{cases_lt}
use Rattle.std.proofs.lemmas.List.{append-nil, drop_more, drop_all}
use Rattle.holiday_calendars.specs.declared.calendars.Calendar.{Calendar}
use Rattle.curve_terms.specs.declared.terms.Helper.{Helper}
use Rattle.curve_points.specs.Curve.{Curve}
use Rattle.desk_terms.specs.declared.cause.Cause.{Cause}
use Rattle.curve_drawing.specs.declared.lines.PlotPoint.{PlotPoint}
use Rattle.curve_drawing.specs.Pars.{par_point, points_of}
use Rattle.curve_drawing.specs.PlotPoints.{point_then}
use Rattle.curve_drawing.proofs.Rated.{behind, behind_one}

-- behind as many as there are of both, one of them is at its end
one_ended : (at count a b : ℕ) → count ≡ min a b → count ≤ at → (a ≤ at) ⊎ (b ≤ at)
one_ended at count a b is past = ended (cases_lt at a)
  where
    ended : (at < a) ⊎ (a ≤ at) → (a ≤ at) ⊎ (b ≤ at)
    ended (inl before) = inr (omega (arith, is, past, before))
    ended (inr over) = inl over

module _ (cal : Calendar) (curve : Curve) (helpers : List Helper) (quotes : List ℤ) (at : ℕ) where
  module _ (helper : Helper) (quote : ℤ) (within : at < length helpers) (is : helper ≡ get_or helpers at helper)
      (quoted : at < length quotes) (so : quote ≡ get_or quotes at quote) where
    next : points_of cal curve (drop at helpers) (drop at quotes)
        ≡ point_then (par_point cal curve helper quote) (points_of cal curve (drop (at + 1) helpers) (drop (at + 1) quotes))
    unfolding points_of
    next =
        ap (λ (l : List Helper). points_of cal curve l (drop at quotes))
        (drop_more helpers at helper within ∙ ap (λ (h : Helper). h ∷ drop (at + 1) helpers) (sym is))
        ∙ ap (points_of cal curve (helper ∷ drop (at + 1) helpers))
        (drop_more quotes at quote quoted ∙ ap (λ (q : ℤ). q ∷ drop (at + 1) quotes) (sym so))

    -- the par rate that a place has is that of what stands there
    there : (found : Result PlotPoint Cause) → found ≡ par_point cal curve (get_or helpers at helper) (get_or quotes at quote)
        → found ≡ par_point cal curve helper quote
    there found are =
        are ∙ ap (λ (h : Helper). par_point cal curve h (get_or quotes at quote)) (sym is) ∙ ap (par_point cal curve helper) (sym so)

    pub pars_more : (point : PlotPoint) (old new : List PlotPoint) (whole : Result (List PlotPoint) Cause)
        → Ok point ≡ par_point cal curve (get_or helpers at helper) (get_or quotes at quote) → new ≡ old ++ point ∷ []
        → whole ≡ behind old (points_of cal curve (drop at helpers) (drop at quotes))
        → whole ≡ behind new (points_of cal curve (drop (at + 1) helpers) (drop (at + 1) quotes))
    pars_more point old new whole found wrote so_far =
        let rest = points_of cal curve (drop (at + 1) helpers) (drop (at + 1) quotes) in
        so_far
        ∙ ap (behind old) (next ∙ ap (λ (p : Result PlotPoint Cause). point_then p rest) (sym (there (Ok point) found)))
        ∙ behind_one old point rest
        ∙ ap (λ (l : List PlotPoint). behind l rest) (sym wrote)

    pub pars_refused : (cause : Cause) (old : List PlotPoint) (whole : Result (List PlotPoint) Cause)
        → Err cause ≡ par_point cal curve (get_or helpers at helper) (get_or quotes at quote)
        → whole ≡ behind old (points_of cal curve (drop at helpers) (drop at quotes)) → whole ≡ Err cause
    pars_refused cause old whole found so_far =
        let rest = points_of cal curve (drop (at + 1) helpers) (drop (at + 1) quotes) in
        so_far ∙ ap (behind old) (next ∙ ap (λ (p : Result PlotPoint Cause). point_then p rest) (sym (there (Err cause) found)))

  -- all helpers are done, or all quotes
  no_quotes : (hs : List Helper) → points_of cal curve hs [] ≡ Ok []
  unfolding points_of
  no_quotes [] = refl
  no_quotes (helper ∷ hs) = refl

  no_helpers : (qs : List ℤ) → points_of cal curve [] qs ≡ Ok []
  unfolding points_of
  no_helpers qs = refl

  ended : (length helpers ≤ at) ⊎ (length quotes ≤ at) → points_of cal curve (drop at helpers) (drop at quotes) ≡ Ok []
  ended (inl past) = ap (λ (l : List Helper). points_of cal curve l (drop at quotes)) (drop_all at helpers past) ∙ no_helpers (drop at quotes)
  ended (inr past) = ap (points_of cal curve (drop at helpers)) (drop_all at quotes past) ∙ no_quotes (drop at helpers)

  pub pars_end : (old : List PlotPoint) (whole : Result (List PlotPoint) Cause) (count : ℕ)
      → count ≡ min (length helpers) (length quotes) → count ≤ at
      → whole ≡ behind old (points_of cal curve (drop at helpers) (drop at quotes)) → whole ≡ Ok old
  pars_end old whole count is past so_far =
      so_far ∙ ap (behind old) (ended (one_ended at count (length helpers) (length quotes) is past)) ∙ ap (λ (l : List PlotPoint). Ok l) (append-nil old)
