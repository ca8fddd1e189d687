use Rattle.std.proofs.Common.{◌≡◌}
use Rattle.tool_risk.specs.Curves.{curves_below}
use Rattle.tool_risk.proofs.curves.curves_beneath.Given as goal

-- the curves before the number at hand are found
abbrev pub invariant-loop-number : goal.invariant-loop-number
invariant-loop-number l = record {
  found : l.found ≡ curves_below l.initial.desk.market l.object l.number;
  same : l.desk ≡ l.initial.desk;
}
