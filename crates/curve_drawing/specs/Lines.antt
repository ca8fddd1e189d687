-- What is drawn of a curve (this project's profile).
use Rattle.std.specs.Prelude.{ℕ, ℤ, ◌-◌, Bool, true, false, if◌then◌else◌, List, [], ◌∷◌, map, length, Option, None, Some, slice_get, Result, Ok, Err}
use Rattle.curve_points.specs.declared.curves.CurveNode.{CurveNode}
use Rattle.curve_points.specs.Curve.{Curve, points}
use Rattle.desk_terms.specs.declared.cause.Cause.{Cause}
use Rattle.curve_drawing.specs.declared.lines.Plot.{Plot}
use Rattle.curve_drawing.specs.declared.lines.Plot.TheVariants.{Factors, Zeros, Forwards, Pars}
use Rattle.curve_drawing.specs.declared.lines.PlotPoint.{PlotPoint}
use Rattle.curve_drawing.specs.Days.{days_of}
use Rattle.curve_drawing.specs.Pars.{Quotes, par_points}
use Rattle.curve_drawing.specs.PlotPoints.{then_points}
use Rattle.curve_drawing.specs.Rates.{rate_between}

-- a curve as its owner and the points that are drawn
pub record Line : Type 0 where
  pub owner : ℕ
  pub points : List PlotPoint

-- a discount factor, in units of 10^-12
abbrev pub factor_point : CurveNode → PlotPoint
factor_point node = record { from = node.day; until = node.day; units = node.factor; quoted = node.factor }

-- a rate from a day to a later one, in units of 10^-9
abbrev pub rate_point : ℤ → ℤ → ℤ → PlotPoint
rate_point from until rate = record { from = from; until = until; units = rate; quoted = rate }

abbrev pub rate_then : ℤ → ℤ → Result ℤ Cause → Result (List PlotPoint) Cause → Result (List PlotPoint) Cause
rate_then from until (Ok rate) rest = then_points (rate_point from until rate) rest
rate_then from until (Err cause) rest = Err cause

-- the rates to these days: all from one day, or each from the one before it
unfoldable pub rate_points : Bool → Curve → ℤ → List ℤ → Result (List PlotPoint) Cause
rate_points rolls curve from [] = Ok []
rate_points rolls curve from (day ∷ days) =
    rate_then from day (rate_between curve from day) (rate_points rolls curve (if rolls then day else from) days)

-- those of the days of a curve up to its last node, every so many months; none without a node
abbrev pub rates_to : Bool → ℕ → Curve → Option CurveNode → Result (List PlotPoint) Cause
rates_to rolls every curve None = Ok []
rates_to rolls every curve (Some node) =
    rate_points rolls curve curve.reference (days_of curve.reference node.day every)

abbrev pub last_node : Curve → Option CurveNode
last_node curve = slice_get curve.nodes (length curve.nodes - 1)

-- THE POINTS that are drawn of a curve: its factors, zero rates by the month, forward rates over three months, par rates of its helpers
abbrev pub plotted : Plot → Quotes → Curve → Result (List PlotPoint) Cause
plotted Factors quotes curve = Ok (map factor_point (points curve))
plotted Zeros quotes curve = rates_to false 1 curve (last_node curve)
plotted Forwards quotes curve = rates_to true 3 curve (last_node curve)
plotted Pars quotes curve = par_points quotes curve

abbrev pub line_by : ℕ → Result (List PlotPoint) Cause → Result Line Cause
line_by owner (Ok points) = Ok (record { owner = owner; points = points })
line_by owner (Err cause) = Err cause

-- THE LINE of a curve with its quoted helpers
abbrev pub line_of : Plot → Quotes → Curve → Result Line Cause
line_of plot quotes curve = line_by curve.owner (plotted plot quotes curve)
