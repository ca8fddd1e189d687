use Rattle.std.proofs.Common.{◌≡◌, ◌≤◌, ◌*◌, ◌^◌, ◌+ℤ◌, drop, unsigned_abs}
use Rattle.tool_risk.specs.Dues.{amounts}
use Rattle.tool_risk.proofs.sums.paid_until.Given as goal

-- the flows before the one at hand are summed
abbrev pub invariant-loop-flow : goal.invariant-loop-flow
invariant-loop-flow l = record {
  due : amounts l.until l.flows ≡ l.sum +ℤ amounts l.until (drop l.flow-index l.flows);
  size : unsigned_abs l.sum ≤ l.flow-index * 10 ^ 22;
}
