-- DELTA AND GAMMA of an instrument where quotes are moved by a size up and down, by central differences of prices that are computed
-- afresh from the market alone (a desk's bucket risk). A delta is the sensitivity to a move of the size, so half of a difference.
use Rattle.std.specs.Prelude.{ℕ, ℤ, ◌+ℤ◌, ◌-ℤ◌, neg_ℤ, List, [], ◌∷◌, if◌then◌else◌, Option, None, Some, Result, Ok, Err}
use Rattle.fixed_amount.specs.Rounding.{closest}
use Rattle.desk_terms.specs.declared.cause.Cause.{Cause}
use Rattle.desk_terms.specs.Reading.{Calc}
use Rattle.desk_model.specs.Market.{Market}
use Rattle.bump_model.specs.declared.moves.Quoted.{Quoted}
use Rattle.bump_model.specs.declared.ladder.Bump.{Bump}
use Rattle.bump_model.specs.declared.ladder.Bump.TheVariants.{One, Together}
use Rattle.bump_model.specs.declared.ladder.Rung.{Rung}
use Rattle.bump_model.specs.declared.ladder.Side as side
use Rattle.bump_model.specs.Moves.{moved, value_at, quoted, quoted_in, with_values, is_limit}
use Rattle.bump_model.specs.Sides.{worth}
use Rattle.bump_model.specs.declared.ladder.Missing.{Missing}
use Rattle.bump_model.specs.declared.ladder.Missing.TheVariants.{Refused, Limit}
use Rattle.tool_risk.specs.declared.figures.Figure.{Figure}
use Rattle.tool_risk.specs.declared.figures.Figure.TheVariants.{Is, Unset, Up, Down}
use Rattle.tool_risk.specs.declared.figures.Gains.{Gains}

-- a price, or for what cause there is none
abbrev pub price_of : Result ℤ Cause → Result ℤ Missing
price_of (Ok amount) = Ok amount
price_of (Err cause) = Err (Refused cause)

-- V: what o is worth where these quotes are moved by a shift, or why it has no price then
abbrev pub price_at : Calc → Market → ℕ → ℤ → List Quoted → Result ℤ Missing
price_at calc market o shift group =
    if is_limit shift group then Err Limit else price_of (worth calc (with_values (moved shift) group market) o)

-- a figure of the price up and the price down. Where both are missing, it is the one up that is named.
abbrev pub figure_of : (ℤ → ℤ → ℤ) → Result ℤ Missing → Result ℤ Missing → Figure
figure_of f (Ok up) (Ok down) = Is (f up down)
figure_of f (Ok up) (Err why) = Down why
figure_of f (Err why) down = Up why

-- the figure where these quotes are moved together by a size
abbrev pub figure_at : (ℤ → ℤ → ℤ) → Calc → ℤ → Market → ℕ → List Quoted → Figure
figure_at f calc size market o group =
    figure_of f (price_at calc market o size group) (price_at calc market o (neg_ℤ size) group)

-- the same of one quote that has this value, or none
abbrev pub figure_for : (ℤ → ℤ → ℤ) → Calc → ℤ → Market → ℕ → ℕ → Option ℤ → Figure
figure_for f calc size market o q None = Unset
figure_for f calc size market o q (Some value) = figure_at f calc size market o (quoted q value ∷ [])

-- the same of one quote, or of those of several that have a value
abbrev pub bump_figure : (ℤ → ℤ → ℤ) → Calc → ℤ → Market → ℕ → Bump → Figure
bump_figure f calc size market o (One q) = figure_for f calc size market o q (value_at market q)
bump_figure f calc size market o (Together label quotes) = figure_at f calc size market o (quoted_in market quotes)

-- half of what lies between two prices, rounded once to a unit, a half away from zero
abbrev pub half_difference : ℤ → ℤ → ℤ
half_difference up down = closest (up -ℤ down) 2

-- DELTA: (V(q + h) - V(q - h)) / 2
abbrev pub delta_of : Calc → ℤ → Market → ℕ → Bump → Figure
delta_of calc size market o bump = bump_figure half_difference calc size market o bump

abbrev pub curvature : ℤ → ℤ → ℤ → ℤ
curvature base up down = (up +ℤ down) -ℤ (base +ℤ base)

-- GAMMA: V(q + h) + V(q - h) - 2 V, the change of the delta over a move of h
abbrev pub gamma_of : Calc → ℤ → Market → ℕ → ℤ → Bump → Figure
gamma_of calc size market o base bump = bump_figure (curvature base) calc size market o bump

-- ---- the same by what an instrument gains on the sides of a ladder's rung

abbrev pub with_down : ℤ → side.Side → Result Gains Figure
with_down up (side.TheVariants.Moved down) = Ok (record { up = up; down = down })
with_down up (side.TheVariants.NoPrice why) = Err (Down why)
with_down up side.TheVariants.Unset = Err Unset

abbrev pub both_in : side.Side → side.Side → Result Gains Figure
both_in (side.TheVariants.Moved up) down = with_down up down
both_in (side.TheVariants.NoPrice why) down = Err (Up why)
both_in side.TheVariants.Unset down = Err Unset

abbrev pub figure_in : (ℤ → ℤ → ℤ) → Result Gains Figure → Figure
figure_in f (Ok gains) = Is (f gains.up gains.down)
figure_in f (Err figure) = figure

abbrev pub delta_in : Rung → Figure
delta_in rung = figure_in half_difference (both_in rung.up rung.down)

abbrev pub total : ℤ → ℤ → ℤ
total up down = up +ℤ down

abbrev pub gamma_in : Rung → Figure
gamma_in rung = figure_in total (both_in rung.up rung.down)
