use Rattle.std.proofs.Common.{◌≡◌, ◌++◌}
use Rattle.curve_drawing.specs.Svg.{steps_below}
use Rattle.curve_drawing.proofs.marks.push_steps.Given as goal

-- the marks before the one at hand are written
abbrev pub invariant-loop-mark : goal.invariant-loop-mark
invariant-loop-mark l = l.out.items ≡ l.initial.out.items ++ steps_below l.scale l.mark
