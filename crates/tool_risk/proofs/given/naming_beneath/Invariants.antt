use Rattle.std.proofs.Common.{◌≡◌}
use Rattle.tool_risk.specs.Given.{naming_below}
use Rattle.tool_risk.proofs.given.naming_beneath.Given as goal

-- those before the number at hand are found
abbrev pub invariant-loop-number : goal.invariant-loop-number
invariant-loop-number l = record {
  found : l.found ≡ naming_below l.initial.desk.market l.object l.number;
  same : l.desk ≡ l.initial.desk;
}
