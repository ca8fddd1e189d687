-- One rate more of a curve.
use Rattle.std.proofs.Common.{◌≡◌, ℕ, ℤ, ◌+◌, ◌<◌, ◌≤◌, Bool, List, [], ◌∷◌, ◌++◌, length, get_or, drop, Result, Ok, Err, refl, sym, ◌∙◌, ap}
use Rattle.std.specs.Prelude.{if◌then◌else◌}
use Rattle.std.proofs.lemmas.List.{append_assoc, append-nil, drop_more, drop_all}
use Rattle.curve_points.specs.Curve.{Curve}
use Rattle.desk_terms.specs.declared.cause.Cause.{Cause}
use Rattle.curve_drawing.specs.declared.lines.PlotPoint.{PlotPoint}
use Rattle.curve_drawing.specs.Lines.{rate_point, rate_then, rate_points}
use Rattle.curve_drawing.specs.PlotPoints.{then_points}
use Rattle.curve_drawing.specs.Rates.{rate_between}

-- points that are there, and those behind them
abbrev pub behind : List PlotPoint → Result (List PlotPoint) Cause → Result (List PlotPoint) Cause
behind made (Ok points) = Ok (made ++ points)
behind made (Err cause) = Err cause

pub behind_none : (rest : Result (List PlotPoint) Cause) → rest ≡ behind [] rest
behind_none (Ok points) = refl
behind_none (Err cause) = refl

pub behind_one : (made : List PlotPoint) (point : PlotPoint) (rest : Result (List PlotPoint) Cause)
    → behind made (then_points point rest) ≡ behind (made ++ point ∷ []) rest
behind_one made point (Ok points) = ap (λ (l : List PlotPoint). Ok l) (sym (append_assoc made (point ∷ []) points))
behind_one made point (Err cause) = refl

module _ (rolls : Bool) (curve : Curve) (from : ℤ) (days : List ℤ) (at : ℕ) (day : ℤ) (within : at < length days)
    (is : day ≡ get_or days at day) where
  next_days : rate_points rolls curve from (drop at days)
      ≡ rate_then from day (rate_between curve from day) (rate_points rolls curve (if rolls then day else from) (drop (at + 1) days))
  unfolding rate_points
  next_days =
      ap (rate_points rolls curve from) (drop_more days at day within ∙ ap (λ (d : ℤ). d ∷ drop (at + 1) days) (sym is))

  pub rates_more : (rate next : ℤ) (old new : List PlotPoint) (whole : Result (List PlotPoint) Cause) → Ok rate ≡ rate_between curve from day
      → new ≡ old ++ rate_point from day rate ∷ [] → next ≡ (if rolls then day else from)
      → whole ≡ behind old (rate_points rolls curve from (drop at days))
      → whole ≡ behind new (rate_points rolls curve next (drop (at + 1) days))
  rates_more rate next old new whole found wrote rolled so_far =
      let rest = rate_points rolls curve (if rolls then day else from) (drop (at + 1) days) in
      so_far
      ∙ ap (behind old) (next_days ∙ ap (λ (r : Result ℤ Cause). rate_then from day r rest) (sym found))
      ∙ behind_one old (rate_point from day rate) rest
      ∙ ap (λ (l : List PlotPoint). behind l rest) (sym wrote)
      ∙ ap (λ (d : ℤ). behind new (rate_points rolls curve d (drop (at + 1) days))) (sym rolled)

  pub rates_refused : (cause : Cause) (old : List PlotPoint) (whole : Result (List PlotPoint) Cause) → Err cause ≡ rate_between curve from day
      → whole ≡ behind old (rate_points rolls curve from (drop at days)) → whole ≡ Err cause
  rates_refused cause old whole found so_far =
      let rest = rate_points rolls curve (if rolls then day else from) (drop (at + 1) days) in
      so_far ∙ ap (behind old) (next_days ∙ ap (λ (r : Result ℤ Cause). rate_then from day r rest) (sym found))

pub rates_end : (rolls : Bool) (curve : Curve) (from : ℤ) (days : List ℤ) (at : ℕ) (old : List PlotPoint)
    (whole : Result (List PlotPoint) Cause) → length days ≤ at
    → whole ≡ behind old (rate_points rolls curve from (drop at days)) → whole ≡ Ok old
unfolding rate_points
rates_end rolls curve from days at old whole past so_far =
    so_far ∙ ap (λ (l : List ℤ). behind old (rate_points rolls curve from l)) (drop_all at days past)
    ∙ ap (λ (l : List PlotPoint). Ok l) (append-nil old)
