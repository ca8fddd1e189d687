use Rattle.std.proofs.Common.{◌≡◌, ◌++◌, drop}
use Rattle.curve_drawing.specs.Points.{all_corners}
use Rattle.curve_drawing.proofs.points.all_corners.Given as goal

-- the corners of the lines before the one at hand are there
abbrev pub invariant-loop-line : goal.invariant-loop-line
invariant-loop-line l = l.corners.items ++ all_corners l.plot (drop l.line-index l.lines) ≡ all_corners l.plot l.lines
