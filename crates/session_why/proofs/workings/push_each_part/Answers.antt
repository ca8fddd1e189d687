use Rattle.std.proofs.Common.{◌≡◌, ◌++◌, ◌∙◌, Some, sym, ap}
use Rattle.desk_terms.specs.declared.value.Value.TheVariants as value
use Rattle.desk_model.specs.State.{State, kept_at}
use Rattle.session_why.proofs.Parting.{left, curve_stops, parts_next}
use Rattle.session_why.proofs.workings.push_each_part.Goals as goal

pub returns-in-Some-Curve : goal.returns-in-Some-Curve
returns-in-Some-Curve c =
    let given = rw c.in-Some-Curve.field-0-is at c.in-Some-Curve.ensures in
    let p = c.args.session.now in
    let i = c.loop-part.invariant in
    curve_stops p c.args.object c.args.parts.now c.loop-part.part-index c.part-item.result c.loop-part-test.true
    c.part-item.is
    c.loop-part.out.items (c.args.out.now.items ++ left p c.args.object c.args.parts.now)
    (record { text = i.text; inputs = i.inputs; weights = i.weights }) _
    (sym (given ∙ ap (λ (t : State). (kept_at t c.part-item.result.member).last) c.desk.ensures))

pub loop-part-preserved : goal.loop-part-preserved
loop-part-preserved c =
    let p = c.args.session.now in
    let i = c.loop-part.invariant in
    let shown : Some (value.Money c.in-Some-Money.worth) ≡ (kept_at c.desk.result.now c.part-item.result.member).last =
    rw c.in-Some-Money.field-0-is at c.in-Some-Money.ensures in
    let n =
    parts_next p c.args.object c.args.parts.now c.loop-part.part-index c.part-item.result c.loop-part-test.true
    c.part-item.is
    c.loop-part.out.items (c.args.out.now.items ++ left p c.args.object c.args.parts.now)
    (record { text = i.text; inputs = i.inputs; weights = i.weights }) c.in-Some-Money.worth c.push_part.new.out.items
    (sym (shown ∙ ap (λ (t : State). (kept_at t c.part-item.result.member).last) c.desk.ensures))
    c.in_ok-push_part-in-Some-Money.ensures in
    record { text = n.text; inputs = n.inputs; weights = n.weights }
