use Rattle.std.proofs.Common.{arith, ℤ, ◌+ℤ◌, FitsSigned}
use mir.Syntax.{w128}
use Rattle.std.proofs.lemmas.Int.{ints}
use Rattle.curve_bootstrap.specs.Coupon.{total}
use Rattle.curve_bootstrap.specs.Split.{open_of}
use Rattle.curve_bootstrap.specs.Split.{split_excess}
use Rattle.curve_bootstrap.proofs.CastLemmas.{excess_through}
use Rattle.curve_bootstrap.proofs.excesses.excess_at.Goals as goal

pub returns : goal.returns
unfolding split_excess
returns c =
    let fr : FitsSigned w128 c.weighed.result = omega (arith, ints) in
    let fo : FitsSigned w128 c.open_total.result = omega (arith, ints) in
    let fs : FitsSigned w128 (c.args.settled +ℤ c.open_total.result) = omega (arith, ints) in
    excess_through (λ (x : ℤ). total (open_of c.args.last.now c.args.end x) c.args.coupons.now) c.args.x c.args.rate c.args.settled c.open_total.result c.weighed.result fr c.ranges.x c.ranges.rate c.ranges.settled fo fs c.weighed.ensures c.open_total.ensures.value
