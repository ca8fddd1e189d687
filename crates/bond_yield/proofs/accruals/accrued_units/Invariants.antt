use Rattle.std.proofs.Common.{◌≡◌, ◌≤◌, ◌*◌, pos, ◌+ℤ◌, drop}
use Rattle.flow_terms.specs.declared.limits.TheConstants.{MOST_AMOUNT}
use Rattle.bond_yield.specs.Accrued.{accrued}
use Rattle.bond_yield.proofs.accruals.accrued_units.Given as goal

abbrev pub invariant-loop-flow : goal.invariant-loop-flow
invariant-loop-flow l = record {
  value : pos l.sum +ℤ accrued (drop l.flow-index l.flows) l.settle ≡ accrued l.flows l.settle;
  bound : l.sum ≤ l.flow-index * MOST_AMOUNT;
}
