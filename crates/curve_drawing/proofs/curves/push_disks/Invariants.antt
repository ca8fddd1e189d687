use Rattle.std.proofs.Common.{◌≡◌, ◌++◌, drop}
use Rattle.curve_drawing.specs.Svg.{disks_text}
use Rattle.curve_drawing.proofs.curves.push_disks.Given as goal

-- the parts before the one at hand are written
abbrev pub invariant-loop-point : goal.invariant-loop-point
invariant-loop-point l = l.out.items ++ disks_text l.scale (drop l.point-index l.points) ≡ l.initial.out.items ++ disks_text l.scale l.points
