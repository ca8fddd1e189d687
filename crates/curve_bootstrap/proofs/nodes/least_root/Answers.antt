use Rattle.std.proofs.Common.{arith, ◌∙◌, ℤ, pos, ◌≤ℤ◌, ◌<ℤ◌, FitsSigned, subst}
use mir.Syntax.{w128}
use Rattle.std.proofs.lemmas.Int.{ints, to_z-of_z}
use Rattle.curve_points.specs.Segment.{most}
use Rattle.curve_bootstrap.specs.Split.{split_excess}
use Rattle.curve_bootstrap.proofs.CastLemmas.{sign_through, le_not, lt_not}
use Rattle.curve_bootstrap.proofs.NodeLemmas.{turned_root}
use Rattle.curve_bootstrap.proofs.nodes.least_root.Goals as goal

pub returns-then-is_root : goal.returns-then-is_root
returns-then-is_root c =
    let fr : FitsSigned w128 c.near_root-near.result = omega (arith, ints, c.near_root-near.ensures.low, c.near_root-near.ensures.high) in
    let en = to_z-of_z w128 c.near_root-near.result fr in
    let e = c.factor_of.ensures ∙ en in
    let er = to_z-of_z w128 c.args.rate c.ranges.rate in
    let es = to_z-of_z w128 c.args.settled c.ranges.settled in
    let above = rw (er, es, en) at c.is_root.ensures.above c.if-is_root.true in
    let below = rw (er, es, en) at c.is_root.ensures.below c.if-is_root.true in
    rw e (turned_root (split_excess c.args.last.now c.args.end c.args.rate c.args.settled c.args.coupons.now) c.near_root-near.result c.requires.rises
    c.near_root-near.ensures.low c.near_root-near.ensures.high above below)

pub returns : goal.returns
returns c =
    let f = λ (rate settled x : ℤ). split_excess c.args.last.now c.args.end rate settled c.args.coupons.now x in
    let fr : FitsSigned w128 c.halved-root.result = omega (arith, ints, c.halved-root.ensures.low, c.halved-root.ensures.high) in
    let e = c.factor_of-2.ensures ∙ to_z-of_z w128 c.halved-root.result fr in
    let er = to_z-of_z w128 c.args.rate c.ranges.rate in
    let es = to_z-of_z w128 c.args.settled c.ranges.settled in
    let f1 : FitsSigned w128 c.excess_at-below.result = omega (arith, ints) in
    let f2 : FitsSigned w128 c.excess_at-above.result = omega (arith, ints) in
    let zero_fits : FitsSigned w128 (pos 0) = omega (arith, ints) in
    let most_fits : FitsSigned w128 most = omega (arith, ints) in
    let low = sign_through f c.args.rate c.args.settled (pos 0) c.excess_at-below.result f1 c.ranges.rate c.ranges.settled zero_fits c.excess_at-below.ensures in
    let high = sign_through f c.args.rate c.args.settled most c.excess_at-above.result f2 c.ranges.rate c.ranges.settled most_fits c.excess_at-above.ensures in
    let above = rw (er, es) at c.halved-root.ensures.above in
    let below = rw (er, es) at c.halved-root.ensures.below in
    rw e (subst (λ (z : ℤ). z <ℤ pos 0) low (le_not _ c.if-below-ge0.false), subst (λ (z : ℤ). pos 0 ≤ℤ z) high (lt_not _ c.if-above-lt0.false), c.halved-root.ensures.low, c.halved-root.ensures.high, above, below)
