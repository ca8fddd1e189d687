use Rattle.std.proofs.Common.{arith, ◌∙◌, ℤ, pos, ◌≤ℤ◌, to_z, of_z}
use mir.Syntax.{w128}
use Rattle.std.proofs.lemmas.Int.{ints}
use Rattle.curve_points.specs.Segment.{between}
use Rattle.curve_points.proofs.CastLemmas.{cast_long, cast_wide, by_both}
use Rattle.curve_points.proofs.points.on_segment.Goals as goal

pub invariant_of-result : goal.invariant_of-result
invariant_of-result c =
    let p : pos 1 ≤ℤ c.factor_between.result = c.factor_between.ensures.positive (omega (arith, ints)) (omega (arith, ints)) in
    rw (cast_long c.factor_between.result c.factor_between.ensures.low c.factor_between.ensures.high) (p, c.factor_between.ensures.high)

pub returns : goal.returns
returns c =
    let e = cast_long c.factor_between.result c.factor_between.ensures.low c.factor_between.ensures.high in
    let start = cast_wide c.wide-first.result (omega (arith, ints)) (omega (arith, ints)) ∙ c.wide-first.ensures.value in
    let end = cast_wide c.wide-last.result (omega (arith, ints)) (omega (arith, ints)) ∙ c.wide-last.ensures.value in
    e ∙ by_both (λ (p q : ℤ). between c.args.start.now.day p c.args.end.now.day q c.args.day) c.factor_between.result (to_z w128 (of_z w128 c.wide-first.result)) (to_z w128 (of_z w128 c.wide-last.result))
    c.args.start.now.factor c.args.end.now.factor c.factor_between.ensures.value start end
