use Rattle.std.proofs.Common.{◌≡◌, ◌≤◌, ◌<◌, ◌+◌, ◌*◌, ◌^◌, ℤ, ◌+ℤ◌, unsigned_abs, ◌∙◌, ap, subst, arith, refl, to_z}
use Rattle.std.proofs.Common.{to_z-of_z, FitsSigned, List, ℕ, [], ◌∷◌, drop}
use Rattle.std.specs.Int.{w128}
use Rattle.std.proofs.lemmas.Int.{fits_signed_from_abs}
use Rattle.graph_dot.proofs.Appending.{parts_more, parts_end}
use Rattle.why_model.specs.Workings.{FlowProduct, sum_of_flows}
use Rattle.why_model.specs.Answer.{named, flows_text}
use Rattle.session_why.proofs.Pieces.{flows_more}
use Rattle.std.specs.Prelude.{codes}
use Rattle.session_why.proofs.Lined.{ends, sum_line}
use Rattle.session_why.proofs.Summed.{sum_next, sum_end}
use Rattle.session_why.proofs.sums.push_sum.Goals as goal

abbrev one : List ℕ → FlowProduct → List ℕ
one name flow = flows_text name (flow ∷ [])

pub loop-flow-preserved : goal.loop-flow-preserved
loop-flow-preserved c =
    let name = named c.args.session.now c.args.object in
    let sum : ℤ = to_z w128 c.loop-flow.sum-bits in
    let small : unsigned_abs c.flow.inside.product ≤ 4 * 10 ^ 34 = c.flow.invariant in
    let own : FitsSigned w128 c.flow.inside.product =
    fits_signed_from_abs w128 c.flow.inside.product (omega (arith, small)) in
    let value : c.added-sum.result ≡ sum +ℤ c.flow.inside.product =
    c.added-sum.ensures.value ∙ ap (λ (z : ℤ). sum +ℤ z) (to_z-of_z own) in
    let bound =
    subst (λ (z : ℤ). unsigned_abs c.added-sum.result ≤ unsigned_abs sum + unsigned_abs z) (to_z-of_z own)
    c.added-sum.ensures.bound in
    let few : c.loop-flow.flow-index < 1602 = omega (arith, c.loop-flow-test.true, c.requires) in
    let whole : FitsSigned w128 c.added-sum.result =
    fits_signed_from_abs w128 c.added-sum.result (omega (arith, bound, small, c.loop-flow.invariant.size, few)) in
    let product : c.flow.inside.product ≡ c.flow-item.result.product =
    ap (λ (f : FlowProduct). f.product) c.flow.view_is in
    let rest = sum_of_flows (drop (c.loop-flow.flow-index + 1) c.args.flows.now) in
    rw (to_z-of_z whole) record {
      text =
          parts_more (one name) (flows_text name) (flows_more name) c.args.flows.now c.loop-flow.flow-index
          c.flow-item.result _ _ _
          c.loop-flow-test.true c.flow-item.is c.in_ok-push_flow.ensures c.loop-flow.invariant.text;
      sum = ap (λ (z : ℤ). z +ℤ rest) (value ∙ ap (λ (z : ℤ). sum +ℤ z) product)
          ∙ sum_next c.args.flows.now c.loop-flow.flow-index sum (sum_of_flows c.args.flows.now)
          c.loop-flow.invariant.sum c.flow-item.result
          c.loop-flow-test.true c.flow-item.is;
      size = omega (arith, bound, small, c.loop-flow.invariant.size);
    }

pub returns : goal.returns
returns c =
    let name = named c.args.session.now c.args.object in
    ends c.extend_from_slice.result _ c.push_product.new.out.items (codes "\n") _ c.extend_from_slice.ensures.items
    (sum_line name c.args.out.now.items c.loop-flow.out.items _ _ c.args.flows.now (to_z w128 c.loop-flow.sum-bits)
    (parts_end (flows_text name) refl c.args.flows.now c.loop-flow.flow-index _ _ c.loop-flow-test.false
    c.loop-flow.invariant.text)
    (sum_end c.args.flows.now c.loop-flow.flow-index (to_z w128 c.loop-flow.sum-bits) (sum_of_flows c.args.flows.now)
    c.loop-flow.invariant.sum
    c.loop-flow-test.false)
    c.in_ok-push_head.ensures c.in_ok-push_product.ensures)
