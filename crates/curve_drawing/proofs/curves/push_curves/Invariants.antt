use Rattle.std.proofs.Common.{◌≡◌, ◌++◌, ◌-◌, ◌≤◌, drop, length}
use Rattle.curve_drawing.specs.Svg.{curves_text}
use Rattle.curve_drawing.proofs.curves.push_curves.Given as goal

-- the curves before this one are written
abbrev pub invariant-loop-at : goal.invariant-loop-at
invariant-loop-at l = record {
  within : l.at ≤ length l.lines;
  lines : l.initial.out.items ++ curves_text l.namer.names.now l.namer.of_object.now l.scale 0 l.lines
      ≡ l.out.items ++ curves_text l.namer.names.now l.namer.of_object.now l.scale l.at (drop l.at l.lines);
}

abbrev pub decreases-loop-at : goal.decreases-loop-at
decreases-loop-at l = length l.lines - l.at
