use Rattle.std.proofs.Common.{◌≤◌, ◌*◌, ◌^◌, ◌++◌, ◌∷◌, [], ◌∙◌, ap, unsigned_abs, to_z-of_z, FitsSigned, arith}
use Rattle.std.specs.Prelude.{codes}
use Rattle.std.specs.Int.{w128}
use Rattle.std.proofs.lemmas.Int.{fits_signed_from_abs}
use Rattle.why_model.specs.Workings.{FlowProduct}
use Rattle.why_model.specs.Answer.{named, flows_text}
use Rattle.session_why.proofs.Lined.{ends, units_as, flow_line}
use Rattle.session_why.proofs.sums.push_flow.Goals as goal

pub returns : goal.returns
returns c =
    let name = named c.args.session.now c.args.object in
    let old = c.args.out.now.items in
    let small : unsigned_abs c.flow.inside.product ≤ 4 * 10 ^ 34 = c.flow.invariant in
    let own : FitsSigned w128 c.flow.inside.product =
    fits_signed_from_abs w128 c.flow.inside.product (omega (arith, small)) in
    let flow : FlowProduct = record {
      paid = c.flow.inside.paid;
      amount = c.flow.inside.amount;
      factor = c.flow.inside.factor;
      product = c.flow.inside.product;
      fixing = c.flow.inside.fixing;
    } in
    ends c.extend_from_slice.result _ c.push_fixing.new.out.items (codes "\n") _ c.extend_from_slice.ensures.items
    (flow_line name old _ _ _ _ _ _ flow c.in_ok-push_head.ensures c.in_ok-push_day.ensures
    c.in_ok-push_amount.ensures c.in_ok-push_factor.ensures
    (units_as _ _ 18 _ _ c.in_ok-push_product.ensures (to_z-of_z own)) c.in_ok-push_fixing.ensures
    ∙ ap (λ (f : FlowProduct). old ++ flows_text name (f ∷ [])) c.flow.view_is)
