use Rattle.std.proofs.Common.{arith, to_z, of_z}
use mir.Syntax.{w128}
use Rattle.std.proofs.lemmas.Int.{ints}
use Rattle.curve_bootstrap.specs.Split.{open_of}
use Rattle.curve_bootstrap.proofs.SumLemmas.{sum_through}
use Rattle.curve_bootstrap.proofs.sums.open_total.Goals as goal

pub loop-coupon-preserved : goal.loop-coupon-preserved
loop-coupon-preserved c = record {
  value = sum_through (open_of c.args.last.now c.args.end (to_z w128 (of_z w128 c.args.x))) c.args.coupons.now c.loop-coupon.coupon-index c.coupon-item.result (to_z w128 c.loop-coupon.sum-bits) c.open_in-sum.result c.loop-coupon-test.true c.coupon-item.is c.loop-coupon.invariant.low (omega (arith, ints)) c.open_in-sum.ensures.low (omega (arith, ints)) c.loop-coupon.invariant.value c.open_in-sum.ensures.value;
  low = omega (arith, ints);
  high = omega (arith, ints);
}
