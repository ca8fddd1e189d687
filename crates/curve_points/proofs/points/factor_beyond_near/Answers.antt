use Rattle.std.proofs.Common.{arith, ◌∙◌, ◌≡◌, ◌<◌, ◌-◌, sym, ap, Some, length, suc, refl}
use Rattle.curve_points.proofs.PointLemmas.{beyond_none, beyond_some, end_after, start_at}
use Rattle.curve_points.proofs.points.factor_beyond_near.Goals as goal

pub returns-then-at-nodes : goal.returns-then-at-nodes
returns-then-at-nodes c = sym (beyond_none c.args.from.now c.args.nodes.now c.args.day (rw c.if-at-nodes.true at c.place_near-at.ensures.before))

pub returns-then-at-eq0 : goal.returns-then-at-eq0
returns-then-at-eq0 c =
    let within : c.place_near-at.result < length c.args.nodes.now = omega arith in
    let some = beyond_some c.args.from.now c.args.nodes.now c.args.day c.place_near-at.result c.args.from.now c.index-nodes-at.result within (rw c.if-at-eq0.true refl) c.index-nodes-at.is c.place_near-at.ensures.before (end_after c.args.nodes.now c.args.day c.place_near-at.result c.index-nodes-at.result within c.index-nodes-at.is c.place_near-at.ensures.after) in
    ap Some c.on_segment.ensures ∙ sym some

pub returns : goal.returns
returns c =
    let within : c.place_near-at.result < length c.args.nodes.now = omega arith in
    let place : c.place_near-at.result ≡ suc (c.place_near-at.result - 1) = omega arith in
    let some = beyond_some c.args.from.now c.args.nodes.now c.args.day c.place_near-at.result c.index-nodes-at-2.result c.index-nodes-at.result within (start_at c.args.from.now c.args.nodes.now c.place_near-at.result (c.place_near-at.result - 1) c.index-nodes-at-2.result place c.index-nodes-at-2.is) c.index-nodes-at.is c.place_near-at.ensures.before (end_after c.args.nodes.now c.args.day c.place_near-at.result c.index-nodes-at.result within c.index-nodes-at.is c.place_near-at.ensures.after) in
    ap Some c.on_segment-2.ensures ∙ sym some
