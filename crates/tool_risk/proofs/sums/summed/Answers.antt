use Rattle.std.proofs.Common.{◌≡◌, ◌≤◌, ◌<◌, ◌+◌, ◌^◌, ◌∙◌, arith, sym, ap, subst, ℤ, ◌+ℤ◌, unsigned_abs, to_z, to_z-of_z, FitsSigned}
use Rattle.std.specs.Int.{w128}
use Rattle.std.proofs.lemmas.Int.{fits_signed_from_abs}
use Rattle.std.proofs.lemmas.List.Elements.{All-get_or}
use Rattle.desk_terms.specs.declared.terms.Part.{Part}
use Rattle.desk_terms.specs.Parts.{IsWeight}
use Rattle.tool_risk.specs.Dues.{product}
use Rattle.tool_risk.proofs.Summing.{one_more, refused, finished, is_refused, weights_are}
use Rattle.tool_risk.proofs.sums.summed.Goals as goal

pub product-requires : goal.product-requires
product-requires c =
    let weight = subst (λ (p : Part). IsWeight p.weight) (sym c.part-item.is)
    (All-get_or (λ part. IsWeight part.weight) c.args.parts.now c.loop-part.part-index c.part-item.result c.loop-part-test.true (weights_are c.args.parts.now c.requires.each)) in
    weight.1

pub returns-in_err-units : goal.returns-in_err-units
returns-in_err-units c =
    let cause = refused (product c.args.before.now) c.args.parts.now c.loop-part.part-index c.part-item.result (to_z w128 c.loop-part.sum-bits)
    c.loop-part-test.true c.part-item.is c.in_err-units.field-0.0 (sym c.product.ensures.value ∙ c.in_err-units.was) in
    is_refused _ c.from_residual.result c.in_err-units.field-0.0 (c.loop-part.invariant.due ∙ cause) c.from_residual.ensures.1

pub loop-part-preserved : goal.loop-part-preserved
loop-part-preserved c =
    let sum : ℤ = to_z w128 c.loop-part.sum-bits in
    let small : unsigned_abs c.in_ok-units.units ≤ 10 ^ 32 = c.in_ok-units.ensures.bound in
    let own : FitsSigned w128 c.in_ok-units.units = fits_signed_from_abs w128 c.in_ok-units.units (omega (arith, small)) in
    let value : c.sum_of-sum.result ≡ sum +ℤ c.in_ok-units.units = c.sum_of-sum.ensures.value ∙ ap (λ (z : ℤ). sum +ℤ z) (to_z-of_z own) in
    let bound = subst (λ (z : ℤ). unsigned_abs c.sum_of-sum.result ≤ unsigned_abs sum + unsigned_abs z) (to_z-of_z own) c.sum_of-sum.ensures.bound in
    let few : c.loop-part.part-index < 4096 = omega (arith, c.loop-part-test.true, c.requires.count) in
    let whole : FitsSigned w128 c.sum_of-sum.result = fits_signed_from_abs w128 c.sum_of-sum.result (omega (arith, bound, small, c.loop-part.invariant.size, few)) in
    let more = one_more (product c.args.before.now) c.args.parts.now c.loop-part.part-index c.part-item.result sum
    c.loop-part-test.true c.part-item.is c.in_ok-units.units (sym c.product.ensures.value ∙ c.in_ok-units.was) in
    rw (to_z-of_z whole) record {
      due = rw value (c.loop-part.invariant.due ∙ more);
      size = omega (arith, bound, small, c.loop-part.invariant.size);
    }

pub returns : goal.returns
returns c =
    sym (c.loop-part.invariant.due ∙ finished (product c.args.before.now) c.args.parts.now c.loop-part.part-index (to_z w128 c.loop-part.sum-bits) c.loop-part-test.false)
