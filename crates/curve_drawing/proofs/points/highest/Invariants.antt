use Rattle.std.proofs.Common.{◌≡◌, ◌≤◌, drop, length}
use Rattle.curve_drawing.specs.Points.{highest}
use Rattle.curve_drawing.proofs.points.highest.Given as goal

-- what the corners behind are is known
abbrev pub invariant-loop-left : goal.invariant-loop-left
invariant-loop-left l = record {
  within : l.left ≤ length l.corners;
  found : l.high ≡ highest l.fn.other (drop l.left l.corners);
  bound : l.high ≤ 5_000_000_000_000;
}

abbrev pub decreases-loop-left : goal.decreases-loop-left
decreases-loop-left l = l.left
