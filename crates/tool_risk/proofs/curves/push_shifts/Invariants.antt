use Rattle.std.proofs.Common.{◌≡◌, ◌++◌, drop}
use Rattle.std.specs.Prelude.{map}
use Rattle.tool_risk.specs.Asking.{shift_of}
use Rattle.tool_risk.proofs.curves.push_shifts.Given as goal

-- the shifts of the curves before the one at hand are there
abbrev pub invariant-loop-curve : goal.invariant-loop-curve
invariant-loop-curve l = record {
  bumps : l.bumps.items ++ map (shift_of l.initial.desk.market l.quotes) (drop l.curve-index l.curves)
      ≡ l.initial.bumps.items ++ map (shift_of l.initial.desk.market l.quotes) l.curves;
  same : l.desk ≡ l.initial.desk;
}
