use Rattle.std.proofs.Common.{arith, ℤ, pos, ◌-ℤ◌, ◌<ℤ◌, FitsSigned, subst}
use mir.Syntax.{w128}
use Rattle.std.proofs.lemmas.Int.{ints, to_z-of_z}
use Rattle.curve_bootstrap.specs.Split.{split_excess}
use Rattle.curve_bootstrap.proofs.CastLemmas.{sign_through, le_not}
use Rattle.curve_bootstrap.proofs.nodes.is_root.Goals as goal

pub returns-clause-below : goal.returns-clause-below
returns-clause-below c =
    let f = λ (rate settled x : ℤ). split_excess c.args.last.now c.args.end rate settled c.args.coupons.now x in
    let fr : FitsSigned w128 c.excess_at.result = omega (arith, ints) in
    let fx : FitsSigned w128 (c.args.x -ℤ pos 1) = omega (arith, ints) in
    let ex = to_z-of_z w128 c.args.x c.ranges.x in
    let is = rw ex at c.excess_at.ensures in
    let low = sign_through f c.args.rate c.args.settled (c.args.x -ℤ pos 1) c.excess_at.result fr c.ranges.rate c.ranges.settled fx is in
    λ t. subst (λ (z : ℤ). z <ℤ pos 0) low (le_not _ c.if-excess_at-ge0.false)
