use Rattle.std.proofs.Common.{arith}
use Rattle.std.proofs.lemmas.Int.{ints}
use Rattle.bond_yield.proofs.FlowLemmas.{accrued_on, accrued_end, sum_on}
use Rattle.bond_yield.proofs.accruals.accrued_units.Goals as goal

pub loop-flow-preserved : goal.loop-flow-preserved
loop-flow-preserved c = record {
  value = sum_on c.loop-flow.sum c.accrued_of-sum.result _ _ _ _ c.accrued_of-sum.ensures.value
      (accrued_on c.args.flows.now c.loop-flow.flow-index c.flow-item.result c.args.settle c.loop-flow-test.true c.flow-item.is) c.loop-flow.invariant.value;
  bound = omega (arith, c.loop-flow.invariant.bound, c.accrued_of-sum.ensures.bound);
}

pub returns-clause-value : goal.returns-clause-value
returns-clause-value c =
    let none = accrued_end c.args.flows.now c.loop-flow.flow-index c.args.settle c.loop-flow-test.false in
    omega (arith, ints, none, c.loop-flow.invariant.value)
