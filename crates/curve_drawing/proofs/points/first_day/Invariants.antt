use Rattle.std.proofs.Common.{◌≡◌, ◌≤◌, drop, length}
use Rattle.curve_drawing.specs.Points.{first_day}
use Rattle.curve_drawing.proofs.points.first_day.Given as goal

-- what the corners behind are is known
abbrev pub invariant-loop-left : goal.invariant-loop-left
invariant-loop-left l = record {
  within : l.left ≤ length l.corners;
  found : l.first ≡ first_day l.fn.today (drop l.left l.corners);
}

abbrev pub decreases-loop-left : goal.decreases-loop-left
decreases-loop-left l = l.left
