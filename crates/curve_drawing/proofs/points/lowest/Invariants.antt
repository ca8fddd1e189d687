use Rattle.std.proofs.Common.{◌≡◌, ◌≤◌, drop, length}
use Rattle.curve_drawing.specs.Points.{lowest}
use Rattle.curve_drawing.proofs.points.lowest.Given as goal

-- what the corners behind are is known
abbrev pub invariant-loop-left : goal.invariant-loop-left
invariant-loop-left l = record {
  within : l.left ≤ length l.corners;
  found : l.low ≡ lowest l.fn.other (drop l.left l.corners);
  high : l.low ≤ 5_000_000_000_000;
}

abbrev pub decreases-loop-left : goal.decreases-loop-left
decreases-loop-left l = l.left
