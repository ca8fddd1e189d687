use Rattle.std.proofs.Common.{◌≡◌, ◌++◌, drop}
use Rattle.curve_drawing.specs.Table.{rows_text}
use Rattle.curve_drawing.proofs.listing.push_rows.Given as goal

-- the parts before the one at hand are written
abbrev pub invariant-loop-point : goal.invariant-loop-point
invariant-loop-point l = l.out.items ++ rows_text l.plot l.name (drop l.point-index l.points) ≡ l.initial.out.items ++ rows_text l.plot l.name l.points
