use Rattle.std.proofs.Common.{◌≡◌, ◌≤◌, drop, length}
use Rattle.curve_drawing.specs.Points.{span_from}
use Rattle.curve_drawing.proofs.points.span_from.Given as goal

-- what the corners behind are is known
abbrev pub invariant-loop-left : goal.invariant-loop-left
invariant-loop-left l = record {
  within : l.left ≤ length l.corners;
  found : l.span ≡ span_from l.first (drop l.left l.corners);
  low : 1 ≤ l.span;
  high : l.span ≤ 110_000;
}

abbrev pub decreases-loop-left : goal.decreases-loop-left
decreases-loop-left l = l.left
