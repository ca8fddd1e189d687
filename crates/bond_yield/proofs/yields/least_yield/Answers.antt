use Rattle.std.proofs.Common.{◌+◌, ◌-◌, ◌/◌, ◌∙◌, arith, sym}
use Rattle.bond_yield.proofs.YieldLemmas.{above_below, above_is}
use Rattle.bond_yield.proofs.yields.least_yield.Goals as goal

pub loop-low-preserved : goal.loop-low-preserved
loop-low-preserved c =
    let middle = c.loop-low.low + (c.loop-low.high - c.loop-low.low) / 2 in
    record {
      order = omega (arith, c.loop-low-test.true);
      top = c.loop-low.invariant.top;
      meets = c.loop-low.invariant.meets;
      least = λ y below. above_below c.args.flows.now c.args.settle c.args.price y middle (omega (arith, below)) (above_is _ _ _ (sym c.le.ensures ∙ c.if-le.false) c.price_at.ensures);
    }
