use Rattle.std.proofs.Common.{◌≡◌, ◌++◌, drop}
use Rattle.curve_drawing.specs.Svg.{corners_text}
use Rattle.curve_drawing.proofs.curves.push_corners.Given as goal

-- the parts before the one at hand are written
abbrev pub invariant-loop-corner : goal.invariant-loop-corner
invariant-loop-corner l = l.out.items ++ corners_text l.scale (drop l.corner-index l.corners) ≡ l.initial.out.items ++ corners_text l.scale l.corners
