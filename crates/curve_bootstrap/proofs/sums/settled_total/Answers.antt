use Rattle.std.proofs.Common.{arith, to_z}
use mir.Syntax.{w128}
use Rattle.std.proofs.lemmas.Int.{ints}
use Rattle.curve_bootstrap.specs.Split.{settled_of}
use Rattle.curve_bootstrap.proofs.SumLemmas.{sum_through}
use Rattle.curve_bootstrap.proofs.sums.settled_total.Goals as goal

pub loop-coupon-preserved : goal.loop-coupon-preserved
loop-coupon-preserved c = record {
  value = sum_through (settled_of c.args.from.now c.args.nodes.now) c.args.coupons.now c.loop-coupon.coupon-index c.coupon-item.result (to_z w128 c.loop-coupon.sum-bits) c.settled_in-sum.result c.loop-coupon-test.true c.coupon-item.is c.loop-coupon.invariant.low (omega (arith, ints)) c.settled_in-sum.ensures.low (omega (arith, ints)) c.loop-coupon.invariant.value c.settled_in-sum.ensures.value;
  low = omega (arith, ints);
  high = omega (arith, ints);
}
