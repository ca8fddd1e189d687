use Rattle.std.proofs.Common.{◌≡◌, ◌≤◌, ◌<◌, ◌+◌, ◌*◌, ◌^◌, ◌∙◌, arith, sym, ap, subst, ℤ, ◌+ℤ◌, unsigned_abs, to_z, to_z-of_z, FitsSigned, option_copied}
use Rattle.std.specs.Int.{w128}
use Rattle.std.proofs.lemmas.Int.{fits_signed_from_abs}
use Rattle.cash_flow_legs.specs.Amount.{views_of, amount_of}
use Rattle.cash_flow_legs.specs.Live.{is_live}
use Rattle.discount_engines.specs.Worth.{factor_on, discounted, where_live}
use Rattle.discount_engines.proofs.WorthLemmas.{live_alone, one_more, refused, finished, is_refused}
use Rattle.discount_engines.proofs.worths.worth.Goals as goal

pub returns-in_err-part-clause-value : goal.returns-in_err-part-clause-value
returns-in_err-part-clause-value c =
    let live = is_live c.args.today c.args.curve.now.reference in
    let part = discounted (amount_of (views_of (option_copied c.args.index)) c.args.today (option_copied c.args.forecast) c.args.object) (factor_on c.args.curve.now) in
    let cause = refused (where_live live part) c.args.flows.now c.loop-flow.flow-index c.flow-item.result (to_z w128 c.loop-flow.sum-bits) c.in_err-part.field-0.0
    c.loop-flow-test.true c.flow-item.is (sym c.live_part.ensures.value ∙ c.in_err-part.was) in
    is_refused _ c.from_residual.result c.in_err-part.field-0.0 (sym (live_alone live part c.args.flows.now) ∙ (c.loop-flow.invariant.due ∙ cause)) c.from_residual.ensures.1

pub loop-flow-preserved : goal.loop-flow-preserved
loop-flow-preserved c =
    let live = is_live c.args.today c.args.curve.now.reference in
    let part = discounted (amount_of (views_of (option_copied c.args.index)) c.args.today (option_copied c.args.forecast) c.args.object) (factor_on c.args.curve.now) in
    let sum : ℤ = to_z w128 c.loop-flow.sum-bits in
    let small : unsigned_abs c.in_ok-part.part ≤ 4 * 10 ^ 34 = c.in_ok-part.ensures.size in
    let own : FitsSigned w128 c.in_ok-part.part = fits_signed_from_abs w128 c.in_ok-part.part (omega (arith, small)) in
    let value : c.sum_of-sum.result ≡ sum +ℤ c.in_ok-part.part = c.sum_of-sum.ensures.value ∙ ap (λ (z : ℤ). sum +ℤ z) (to_z-of_z own) in
    let bound = subst (λ (z : ℤ). unsigned_abs c.sum_of-sum.result ≤ unsigned_abs sum + unsigned_abs z) (to_z-of_z own) c.sum_of-sum.ensures.bound in
    let few : c.loop-flow.flow-index < 1602 = omega (arith, c.loop-flow-test.true, c.requires.count) in
    let whole : FitsSigned w128 c.sum_of-sum.result = fits_signed_from_abs w128 c.sum_of-sum.result (omega (arith, bound, small, c.loop-flow.invariant.size, few)) in
    let more = one_more (where_live live part) c.args.flows.now c.loop-flow.flow-index c.flow-item.result sum c.in_ok-part.part
    c.loop-flow-test.true c.flow-item.is (sym c.live_part.ensures.value ∙ c.in_ok-part.was) in
    rw (to_z-of_z whole) record {
      due = rw value (c.loop-flow.invariant.due ∙ more);
      size = omega (arith, bound, small, c.loop-flow.invariant.size);
    }

pub returns-clause-value : goal.returns-clause-value
returns-clause-value c =
    let live = is_live c.args.today c.args.curve.now.reference in
    let part = discounted (amount_of (views_of (option_copied c.args.index)) c.args.today (option_copied c.args.forecast) c.args.object) (factor_on c.args.curve.now) in
    let done = finished (where_live live part) c.args.flows.now c.loop-flow.flow-index (to_z w128 c.loop-flow.sum-bits) c.loop-flow-test.false in
    sym (sym (live_alone live part c.args.flows.now) ∙ (c.loop-flow.invariant.due ∙ done))
