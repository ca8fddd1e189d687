use Rattle.std.proofs.Common.{◌≡◌, ◌∙◌, sym, arith, true, false}
use Rattle.std.proofs.Math.Nat.{mul-le-mul}
use Rattle.bond_yield.specs.Price.{is_after}
use Rattle.bond_yield.proofs.FlowLemmas.{later_is, later_not}
use Rattle.bond_yield.proofs.FactorLemmas.{worth_skipped, worth_taken, worth_end}
use Rattle.bond_yield.proofs.prices.worth.Goals as goal
use Rattle.bond_yield.proofs.prices.worth.Goals.{then-gt, else-gt}

pub loop-flow-preserved : goal.loop-flow-preserved
loop-flow-preserved c = elim c.if-gt.branch [
  | then-gt w ↦
      let after : is_after c.args.settle c.flow-item.result ≡ true = rw (← c.paid-paid.ensures) (later_is c.paid-paid.result c.args.settle (sym c.gt.ensures ∙ w.if-gt.true)) in
      let taken = worth_taken c.args.flows.now c.loop-flow.flow-index c.flow-item.result c.args.settle c.args.y c.loop-flow.factor c.loop-flow.day c.loop-flow-test.true c.flow-item.is after in
      let most = mul-le-mul w.amount_of.ensures.bound w.factor_after-factor.ensures.bound in
      record {
        value = rw (w.total-is, w.day-is, w.factor-is, w.amount_of.ensures.value, w.factor_after-factor.ensures.value, w.days_from.ensures.value, c.paid-paid.ensures) (omega (arith, taken, c.loop-flow.invariant.value));
        bound = rw w.total-is (omega (arith, most, c.loop-flow.invariant.bound));
        factor = rw w.factor-is w.factor_after-factor.ensures.bound;
      }
  | else-gt w ↦
      let settled : is_after c.args.settle c.flow-item.result ≡ false = rw (← c.paid-paid.ensures) (later_not c.paid-paid.result c.args.settle (sym c.gt.ensures ∙ w.if-gt.false)) in
      let skipped = worth_skipped c.args.flows.now c.loop-flow.flow-index c.flow-item.result c.args.settle c.args.y c.loop-flow.factor c.loop-flow.day c.loop-flow-test.true c.flow-item.is settled in
      record {
        value = rw (w.total-is, w.day-is, w.factor-is) (omega (arith, skipped, c.loop-flow.invariant.value));
        bound = rw w.total-is (omega (arith, c.loop-flow.invariant.bound));
        factor = rw w.factor-is c.loop-flow.invariant.factor;
      }
]

pub returns-clause-value : goal.returns-clause-value
returns-clause-value c =
    let none = worth_end c.args.flows.now c.loop-flow.flow-index c.args.settle c.args.y c.loop-flow.factor c.loop-flow.day c.loop-flow-test.false in
    omega (arith, none, c.loop-flow.invariant.value)
