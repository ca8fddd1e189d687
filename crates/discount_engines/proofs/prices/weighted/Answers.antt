use Rattle.std.proofs.Common.{◌≡◌, ◌≤◌, ◌<◌, ◌^◌, ◌+◌, ◌+ℤ◌, ℤ, Some, Option, length, drop, sym, ap, subst, ◌∙◌, arith, to_z, to_z-of_z, FitsSigned}
use Rattle.std.specs.Int.{w128}
use Rattle.std.specs.Int.RustNames.{unsigned_abs}
use Rattle.std.proofs.lemmas.Int.{fits_signed_from_abs}
use Rattle.discount_engines.specs.Composite.{plus, weighted}
use Rattle.discount_engines.proofs.Sums.{too_few, one_more, plus_on}
use Rattle.discount_engines.proofs.prices.weighted.Goals as goal

pub returns-then-inputs-parts : goal.returns-then-inputs-parts
returns-then-inputs-parts c = sym (too_few c.args.parts.now c.args.inputs.now c.if-inputs-parts.true)

pub returns-in-None : goal.returns-in-None
returns-in-None c =
    let within : c.loop-at.at < length c.args.parts.now = c.loop-at-test.true in
    let given : c.loop-at.at < length c.args.inputs.now = omega (arith, within, c.if-inputs-parts.false) in
    let more = one_more c.args.parts.now c.args.inputs.now c.loop-at.at c.index-parts-at.result c.index-inputs-at.result
    within c.index-parts-at.is given c.index-inputs-at.is in
    let rest = weighted (drop (c.loop-at.at + 1) c.args.parts.now) (drop (c.loop-at.at + 1) c.args.inputs.now) in
    ap (λ (p : Option ℤ). plus (Some (to_z w128 c.loop-at.sum-bits)) (plus p rest)) (sym c.in-None.is ∙ c.product.ensures.value) ∙ ap (plus (Some (to_z w128 c.loop-at.sum-bits))) (sym more) ∙ c.loop-at.invariant.0

pub loop-at-preserved : goal.loop-at-preserved
loop-at-preserved c =
    let within : c.loop-at.at < length c.args.parts.now = c.loop-at-test.true in
    let given : c.loop-at.at < length c.args.inputs.now = omega (arith, within, c.if-inputs-parts.false) in
    let more = one_more c.args.parts.now c.args.inputs.now c.loop-at.at c.index-parts-at.result c.index-inputs-at.result
    within c.index-parts-at.is given c.index-inputs-at.is in
    let sum : ℤ = to_z w128 c.loop-at.sum-bits in
    let rest = weighted (drop (c.loop-at.at + 1) c.args.parts.now) (drop (c.loop-at.at + 1) c.args.inputs.now) in
    let small : unsigned_abs c.in-Some.units ≤ 10 ^ 32 = c.in-Some.ensures.bound in
    let own : FitsSigned w128 c.in-Some.units = fits_signed_from_abs w128 c.in-Some.units (omega (arith, small)) in
    let value : c.sum_of-sum.result ≡ sum +ℤ c.in-Some.units = c.sum_of-sum.ensures.value ∙ ap (λ (z : ℤ). sum +ℤ z) (to_z-of_z own) in
    let bound = subst (λ (z : ℤ). unsigned_abs c.sum_of-sum.result ≤ unsigned_abs sum + unsigned_abs z) (to_z-of_z own) c.sum_of-sum.ensures.bound in
    let limit : c.loop-at.at < 4096 = omega (arith, within, c.requires) in
    let whole : FitsSigned w128 c.sum_of-sum.result = fits_signed_from_abs w128 c.sum_of-sum.result (omega (arith, bound, c.loop-at.invariant.1, limit, small)) in
    rw (to_z-of_z whole) (
      rw value (plus_on sum c.in-Some.units rest ∙ ap (λ (p : Option ℤ). plus (Some sum) (plus p rest)) (sym c.in-Some.is ∙ c.product.ensures.value) ∙ ap (plus (Some sum)) (sym more) ∙ c.loop-at.invariant.0),
      omega (arith, bound, c.loop-at.invariant.1, small),
    )
