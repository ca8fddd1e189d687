-- The figures of a rung are those of the prices that its gains are counted from.
use Rattle.std.proofs.Common.{◌≡◌, ℕ, ℤ, Bool, true, false, List, [], ◌∷◌, Option, None, Some, Result, Ok, Err, refl, ap, arith}
use Rattle.std.specs.Prelude.{if◌then◌else◌, ◌-ℤ◌, neg_ℤ}
use Rattle.std.proofs.lemmas.Int.{ints}
use Rattle.desk_terms.specs.declared.cause.Cause.{Cause}
use Rattle.desk_terms.specs.Reading.{Calc}
use Rattle.desk_model.specs.Market.{Market}
use Rattle.bump_model.specs.declared.moves.Quoted.{Quoted}
use Rattle.bump_model.specs.declared.ladder.Bump.{Bump}
use Rattle.bump_model.specs.declared.ladder.Bump.TheVariants.{One, Together}
use Rattle.bump_model.specs.declared.ladder.Side.TheVariants as side
use Rattle.bump_model.specs.Moves.{moved, value_at, quoted, quoted_in, with_values, is_limit}
use Rattle.bump_model.specs.Sides.{worth, gain, side_of, rung_for, bump_rung}
use Rattle.bump_model.specs.declared.ladder.Missing.TheVariants.{Limit}
use Rattle.fixed_amount.specs.Rounding.{closest}
use Rattle.tool_risk.specs.declared.figures.Figure.TheVariants.{Is}
use Rattle.tool_risk.specs.Figures.{price_of, figure_of, figure_at, figure_for, bump_figure, half_difference, curvature, both_in, figure_in, total}

module _ (f g : ℤ → ℤ → ℤ) (base : ℤ) (same : (u d : ℤ) → g (u -ℤ base) (d -ℤ base) ≡ f u d) where
  by_worths : (up down : Result ℤ Cause) → figure_in g (both_in (gain base up) (gain base down)) ≡ figure_of f (price_of up) (price_of down)
  by_worths (Ok u) (Ok d) = ap Is (same u d)
  by_worths (Ok u) (Err cause) = refl
  by_worths (Err cause) (Ok d) = refl
  by_worths (Err cause) (Err other) = refl

  by_limits : (b c : Bool) (up down : Result ℤ Cause)
      → figure_in g
      (both_in (if b then side.NoPrice Limit else gain base up) (if c then side.NoPrice Limit else gain base down))
      ≡ figure_of f (if b then Err Limit else price_of up) (if c then Err Limit else price_of down)
  by_limits true true up down = refl
  by_limits true false up down = refl
  by_limits false true (Ok u) down = refl
  by_limits false true (Err cause) down = refl
  by_limits false false up down = by_worths up down

  module _ (calc : Calc) (size : ℤ) (m : Market) (o : ℕ) where
    group_figure : (group : List Quoted)
        → figure_in g (both_in (side_of calc m o base size group) (side_of calc m o base (neg_ℤ size) group)) ≡ figure_at f calc size m o group
    group_figure group =
        by_limits (is_limit size group) (is_limit (neg_ℤ size) group) (worth calc (with_values (moved size) group m) o)
        (worth calc (with_values (moved (neg_ℤ size)) group m) o)

    quote_figure : (q : ℕ) (found : Option ℤ)
        → figure_in g (both_in (rung_for calc size m o base q found).up (rung_for calc size m o base q found).down) ≡ figure_for f calc size m o q found
    quote_figure q None = refl
    quote_figure q (Some value) = group_figure (quoted q value ∷ [])

    rung_figure : (bump : Bump)
        → figure_in g (both_in (bump_rung calc size m o base bump).up (bump_rung calc size m o base bump).down) ≡ bump_figure f calc size m o bump
    rung_figure (One q) = quote_figure q (value_at m q)
    rung_figure (Together label quotes) = group_figure (quoted_in m quotes)

-- two prices lie as far apart as what is gained over a base
same_distance : (u d base : ℤ) → ((u -ℤ base) -ℤ (d -ℤ base)) ≡ (u -ℤ d)
same_distance u d base = omega (arith, ints)

pub rung_delta : (calc : Calc) (size : ℤ) (m : Market) (o : ℕ) (base : ℤ) (bump : Bump)
    → figure_in half_difference (both_in (bump_rung calc size m o base bump).up (bump_rung calc size m o base bump).down)
    ≡ bump_figure half_difference calc size m o bump
rung_delta calc size m o base bump =
    rung_figure half_difference half_difference base (λ u d. ap (λ (n : ℤ). closest n 2) (same_distance u d base)) calc size m o bump

pub rung_gamma : (calc : Calc) (size : ℤ) (m : Market) (o : ℕ) (base : ℤ) (bump : Bump)
    → figure_in total (both_in (bump_rung calc size m o base bump).up (bump_rung calc size m o base bump).down)
    ≡ bump_figure (curvature base) calc size m o bump
rung_gamma calc size m o base bump =
    rung_figure (curvature base) total base (λ u d. omega (arith, ints)) calc size m o bump
