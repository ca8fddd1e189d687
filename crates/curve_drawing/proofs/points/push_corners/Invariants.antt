use Rattle.std.proofs.Common.{◌≡◌, ◌++◌, drop}
use Rattle.curve_drawing.specs.Points.{line_corners}
use Rattle.curve_drawing.proofs.points.push_corners.Given as goal

-- the corners of the points before the one at hand are there
abbrev pub invariant-loop-point : goal.invariant-loop-point
invariant-loop-point l =
    l.out.items ++ line_corners l.plot (drop l.point-index l.points) ≡ l.initial.out.items ++ line_corners l.plot l.points
