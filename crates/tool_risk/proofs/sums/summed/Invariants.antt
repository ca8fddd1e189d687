use Rattle.std.proofs.Common.{◌≡◌, ◌≤◌, ◌*◌, ◌^◌, drop, unsigned_abs}
use Rattle.tool_risk.specs.Dues.{added, product, summed}
use Rattle.tool_risk.proofs.sums.summed.Given as goal

-- the parts before the one at hand are summed
abbrev pub invariant-loop-part : goal.invariant-loop-part
invariant-loop-part l = record {
  due : summed (product l.before) l.parts ≡ added l.sum (summed (product l.before) (drop l.part-index l.parts));
  size : unsigned_abs l.sum ≤ l.part-index * 10 ^ 32;
}
