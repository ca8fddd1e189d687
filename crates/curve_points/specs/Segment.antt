-- Discount factors between two nodes, straight in the days.
use Rattle.std.specs.Prelude.{◌*◌, ◌^◌, ℤ, pos, ◌+ℤ◌, ◌-ℤ◌, ◌*ℤ◌, unsigned_abs}
use Rattle.fixed_amount.specs.Rounding.{closest}
use Rattle.curve_points.specs.declared.curves.CurveNode.{CurveNode}

-- the factor 1 and the greatest factor, in units of a discount factor
abbrev pub one : ℤ
one = pos (10 ^ 12)

abbrev pub most : ℤ
most = pos (4 * 10 ^ 12)

-- the factor at a day on the segment from (from, first) to (to, last), in proportion to the days, rounded once (this project's profile)
abbrev pub between : ℤ → ℤ → ℤ → ℤ → ℤ → ℤ
between from first to last day =
    closest (first *ℤ (to -ℤ day) +ℤ last *ℤ (day -ℤ from)) (unsigned_abs (to -ℤ from))

-- the same between two nodes
abbrev pub on_segment : CurveNode → CurveNode → ℤ → ℤ
on_segment from to day = between from.day from.factor to.day to.factor day
