use Rattle.std.proofs.Common.{◌≡◌, ◌≤◌, ◌+◌, ◌*◌, drop}
use Rattle.flow_terms.specs.declared.limits.TheConstants.{MOST_AMOUNT}
use Rattle.bond_yield.specs.Price.{one, paid_after, worth_from}
use Rattle.bond_yield.proofs.prices.worth.Given as goal

abbrev pub invariant-loop-flow : goal.invariant-loop-flow
invariant-loop-flow l = record {
  value : l.total + worth_from l.y l.day l.factor (paid_after l.settle (drop l.flow-index l.flows)) ≡ worth_from l.y l.settle one (paid_after l.settle l.flows);
  bound : l.total ≤ l.flow-index * (MOST_AMOUNT * one);
  factor : l.factor ≤ one;
}
