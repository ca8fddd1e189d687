-- THE SUM of single deltas, and what the delta of quotes that move together has beyond it.
use Rattle.std.specs.Prelude.{◌≤◌, ◌*◌, ◌^◌, ◌==◌, ℕ, ℤ, pos, ◌+ℤ◌, ◌-ℤ◌, unsigned_abs, Bool, false, if◌then◌else◌, List, [], ◌∷◌, map, Option, None, Some}
use Rattle.desk_terms.specs.Reading.{Calc}
use Rattle.desk_model.specs.Market.{Market}
use Rattle.bump_model.specs.declared.ladder.Bump.TheVariants.{One}
use Rattle.bump_model.specs.declared.ladder.Rung.{Rung}
use Rattle.tool_risk.specs.declared.figures.Figure.{Figure}
use Rattle.tool_risk.specs.declared.figures.Figure.TheVariants.{Is, Unset, Up, Down}
use Rattle.tool_risk.specs.Figures.{delta_of, delta_in}

-- a figure and the sum of others: that of a quote without a value adds nothing, and one that is no amount is the sum
abbrev pub and_figure : Figure → Figure → Figure
and_figure Unset others = others
and_figure (Up why) others = Up why
and_figure (Down why) others = Down why
and_figure (Is units) (Is more) = Is (units +ℤ more)
and_figure (Is units) Unset = Unset
and_figure (Is units) (Up why) = Up why
and_figure (Is units) (Down why) = Down why

abbrev pub sum_figures : List Figure → Figure
sum_figures [] = Is (pos 0)
sum_figures (figure ∷ figures) = and_figure figure (sum_figures figures)

-- THE SUM of the deltas of these quotes, each moved by itself
abbrev pub sum_of : Calc → ℤ → Market → ℕ → List ℕ → Figure
sum_of calc size market o quotes = sum_figures (map (λ q. delta_of calc size market o (One q)) quotes)

-- what one figure has beyond another: where one of them is no amount, that is named
abbrev pub beyond : Figure → Figure → Figure
beyond Unset sum = Unset
beyond (Up why) sum = Up why
beyond (Down why) sum = Down why
beyond (Is units) (Is sum) = Is (units -ℤ sum)
beyond (Is units) Unset = Unset
beyond (Is units) (Up why) = Up why
beyond (Is units) (Down why) = Down why

-- ---- the same by the rungs of a ladder

abbrev pub is_label : Option ℕ → ℕ → Bool
is_label None o = false
is_label (Some label) o = label == o

-- the delta of the first rung of this object's
abbrev pub delta_at : List Rung → ℕ → Figure
delta_at [] o = Unset
delta_at (rung ∷ rungs) o = if is_label rung.label o then delta_in rung else delta_at rungs o

abbrev pub sum_at : List Rung → List ℕ → Figure
sum_at rungs quotes = sum_figures (map (delta_at rungs) quotes)

-- an amount of a figure of one rung
abbrev pub IsSmall : Figure → Type 0
IsSmall (Is units) = unsigned_abs units ≤ 2 * 10 ^ 26
IsSmall Unset = Unit {0}
IsSmall (Up why) = Unit {0}
IsSmall (Down why) = Unit {0}

-- and of a sum of them
abbrev pub IsBounded : Figure → Type 0
IsBounded (Is units) = unsigned_abs units ≤ 2 ^ 16 * (2 * 10 ^ 26)
IsBounded Unset = Unit {0}
IsBounded (Up why) = Unit {0}
IsBounded (Down why) = Unit {0}
