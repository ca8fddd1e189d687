-- Small markets that are worked through by hand.
use Rattle.std.specs.Prelude.{◌≡◌, ◌+◌, ◌^◌, pos, neg_ℤ, ◌*ℤ◌, List, [], ◌∷◌, Some, Ok, Err}
use Rattle.desk_terms.specs.declared.cause.Cause.TheVariants.{TooLarge, Unset as unset}
use Rattle.desk_terms.specs.declared.value.Input as input
use Rattle.desk_terms.specs.declared.value.Value.TheVariants.{Money}
use Rattle.desk_terms.specs.declared.terms.Terms.TheVariants.{Stock}
use Rattle.desk_terms.specs.Reading.{Outcome, Calc}
use Rattle.desk_model.specs.Examples.{plain, day_0}
use Rattle.desk_model.specs.Effect.{made}
use Rattle.desk_model.specs.State.{State}
use Rattle.bump_model.specs.declared.ladder.Bump.TheVariants.{One, Together}
use Rattle.bump_model.specs.Rows.{quoted, two_quotes, at_limit, doubled, summed}
use Rattle.bump_model.specs.Sides.{worth}
use Rattle.bump_model.specs.declared.ladder.Missing.TheVariants.{Refused, Limit}
use Rattle.bump_model.specs.declared.ladder.Side.TheVariants as side
use Rattle.tool_risk.specs.declared.figures.Figure.TheVariants.{Is, Unset, Up, Down}
use Rattle.tool_risk.specs.Figures.{half_difference, figure_of, both_in, delta_of, gamma_of}
use Rattle.tool_risk.specs.FigureSums.{sum_figures, sum_of, beyond}

-- a bench that is worth a stock the square of its quote
abbrev pub squared : List input.Input → Outcome
squared [] = Err (unset 0)
squared (input.TheVariants.Rate rate ∷ inputs) = Ok (Money (rate *ℤ rate))
squared (input.TheVariants.Money amount ∷ inputs) = Err (unset 0)
squared (input.TheVariants.Curve curve ∷ inputs) = Err (unset 0)

abbrev pub bent : Calc
bent reading = squared reading.inputs

-- the quotes 1, at 5 units, and 2, at 7, and a stock on the first, 3: it is worth 25, or 49 and 9 where it is moved by 2
abbrev pub square : State
square = made (Stock 1) (quoted (Some (pos 7)) (quoted (Some (pos 5)) day_0))

pub record IsBent : Type 0 where
  pub base : worth bent square.market 3 ≡ Ok (pos 25)
  pub delta : delta_of bent (pos 2) square.market 3 (One 1) ≡ Is (pos 20)
  pub gamma : gamma_of bent (pos 2) square.market 3 (pos 25) (One 1) ≡ Is (pos 8)
  pub beside : gamma_of bent (pos 2) square.market 3 (pos 25) (One 2) ≡ Is (pos 0)
  pub together : delta_of bent (pos 1) square.market 3 (Together (Some 3) (1 ∷ 2 ∷ [])) ≡ Is (pos 10)
  pub singles : sum_of bent (pos 1) square.market 3 (1 ∷ 2 ∷ []) ≡ Is (pos 10)
  pub others : beyond (Is (pos 20)) (Is (pos 17)) ≡ Is (pos 3)

-- In two_quotes the second has no value, in at_limit the one is at the limit of rates; doubled is refused above, summed
-- has one quote that may not fall.
pub record IsMissing : Type 0 where
  pub stock : delta_of plain (pos 100_000) two_quotes.market 3 (One 1) ≡ Is (pos 100_000)
  pub unset : delta_of plain (pos 100_000) two_quotes.market 3 (One 2) ≡ Unset
  pub limit : delta_of plain (pos 100_000) at_limit.market 2 (One 1) ≡ Up Limit
  pub refused : gamma_of plain (pos 100_000) doubled.market 3 (pos (10 ^ 18)) (One 1) ≡ Up (Refused (TooLarge 2))
  pub down : delta_of plain (pos 100_000) summed.market 4 (Together (Some 3) (1 ∷ 2 ∷ [])) ≡ Down Limit
  pub first : delta_of plain (pos 100_000) summed.market 4 (One 1) ≡ Down (Refused (TooLarge 3))
  pub nothing_added : sum_of plain (pos 100_000) two_quotes.market 3 (2 ∷ 1 ∷ []) ≡ Is (pos 100_000)
  pub no_sum : sum_of plain (pos 100_000) summed.market 4 (1 ∷ 2 ∷ []) ≡ Down (Refused (TooLarge 3))
  pub none_beyond : beyond (Up Limit) (Is (pos 1)) ≡ Up Limit
  pub no_sum_below : beyond (Is (pos 1)) (Down (Refused (TooLarge 3))) ≡ Down (Refused (TooLarge 3))
  pub both_limits : delta_of plain (pos (10 ^ 18 + 1)) (quoted (Some (pos 0)) day_0).market 1 (One 1) ≡ Up Limit
  pub both : figure_of half_difference (Err (Refused (TooLarge 2))) (Err Limit) ≡ Up (Refused (TooLarge 2))
  pub both_gammas : gamma_of plain (pos (10 ^ 18 + 1)) (quoted (Some (pos 0)) day_0).market 1 (pos 7) (One 1) ≡ Up Limit
  pub both_sides : both_in (side.NoPrice Limit) (side.NoPrice (Refused (TooLarge 2))) ≡ Err (Up Limit)
  pub unset_sides : both_in side.Unset side.Unset ≡ Err Unset

-- A delta is rounded once: a half goes away from zero. A sum adds deltas as they are rounded.
pub record IsHalved : Type 0 where
  pub even : half_difference (pos 9) (pos 3) ≡ pos 3
  pub above : half_difference (pos 9) (pos 4) ≡ pos 3
  pub below : half_difference (pos 4) (pos 9) ≡ neg_ℤ (pos 3)
  pub least : half_difference (pos 0) (pos 1) ≡ neg_ℤ (pos 1)
  pub across : half_difference (pos 1) (neg_ℤ (pos 2)) ≡ pos 2
  pub none : half_difference (neg_ℤ (pos 7)) (neg_ℤ (pos 7)) ≡ pos 0
  pub figure : figure_of half_difference (Ok (pos 10)) (Ok (pos 3)) ≡ Is (pos 4)
  pub summed : sum_figures (Is (half_difference (pos 1) (pos 0)) ∷ Is (half_difference (pos 1) (pos 0)) ∷ []) ≡ Is (pos 2)
  pub beyond_it : beyond (Is (half_difference (pos 2) (pos 0))) (Is (pos 2)) ≡ Is (neg_ℤ (pos 1))
