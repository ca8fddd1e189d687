use Rattle.std.proofs.Common.{◌≡◌, drop}
use Rattle.curve_drawing.specs.Lines.{rate_points}
use Rattle.curve_drawing.proofs.Rated.{behind}
use Rattle.curve_drawing.proofs.lines.rate_points.Given as goal

-- the rates to the days before the one at hand are there
abbrev pub invariant-loop-day : goal.invariant-loop-day
invariant-loop-day l =
    rate_points l.rolls l.curve l.curve.reference l.days ≡ behind l.points.items (rate_points l.rolls l.curve l.from (drop l.day-index l.days))
