use Rattle.std.proofs.Common.{◌≡◌, ◌++◌, ◌*◌, ◌^◌, ◌≤◌, ◌+ℤ◌, drop, unsigned_abs}
use Rattle.why_model.specs.Workings.{sum_of_flows}
use Rattle.why_model.specs.Answer.{named, flows_text}
use Rattle.session_why.proofs.sums.push_sum.Given as goal

-- the flows before the one at hand are written, and their products are summed
abbrev pub invariant-loop-flow : goal.invariant-loop-flow
invariant-loop-flow l = record {
  text : l.out.items ++ flows_text (named l.session l.object) (drop l.flow-index l.flows)
      ≡ l.initial.out.items ++ flows_text (named l.session l.object) l.flows;
  sum : l.sum +ℤ sum_of_flows (drop l.flow-index l.flows) ≡ sum_of_flows l.flows;
  size : unsigned_abs l.sum ≤ l.flow-index * (4 * 10 ^ 34);
}
