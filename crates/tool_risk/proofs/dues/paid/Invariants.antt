use Rattle.std.proofs.Common.{◌≡◌}
use Rattle.tool_risk.specs.Dues.{span_in, dues}
use Rattle.tool_risk.proofs.dues.paid.Given as goal

-- what the objects before the number at hand pay is there
abbrev pub invariant-loop-number : goal.invariant-loop-number
invariant-loop-number l = record {
  dues : l.dues.items ≡ dues l.initial.desk.market l.object (span_in l.span) l.number;
  same : l.desk ≡ l.initial.desk;
}
