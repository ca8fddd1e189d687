use Rattle.std.proofs.Common.{arith, to_z}
use mir.Syntax.{w128}
use Rattle.std.proofs.lemmas.Int.{ints}
use Rattle.curve_bootstrap.specs.Coupon.{parts_of}
use Rattle.curve_bootstrap.proofs.SumLemmas.{sum_through}
use Rattle.curve_bootstrap.proofs.sums.parts_total.Goals as goal

pub loop-coupon-preserved : goal.loop-coupon-preserved
loop-coupon-preserved c = record {
  value = sum_through parts_of c.args.coupons.now c.loop-coupon.coupon-index c.coupon-item.result (to_z w128 c.loop-coupon.sum-bits) c.parts_in-sum.result c.loop-coupon-test.true c.coupon-item.is c.loop-coupon.invariant.low (omega (arith, ints)) c.parts_in-sum.ensures.low (omega (arith, ints)) c.loop-coupon.invariant.value c.parts_in-sum.ensures.value;
  low = omega (arith, ints);
  high = omega (arith, ints);
}
