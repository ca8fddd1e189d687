use Rattle.std.proofs.Common.{◌≡◌, ◌++◌, drop}
use Rattle.curve_drawing.specs.Table.{lines_rows}
use Rattle.curve_drawing.proofs.listing.push_lines.Given as goal

-- the parts before the one at hand are written
abbrev pub invariant-loop-line : goal.invariant-loop-line
invariant-loop-line l = l.out.items ++ lines_rows l.namer.names.now l.namer.of_object.now l.plot (drop l.line-index l.lines) ≡ l.initial.out.items ++ lines_rows l.namer.names.now l.namer.of_object.now l.plot l.lines
