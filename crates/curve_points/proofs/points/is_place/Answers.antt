use Rattle.std.proofs.Common.{arith, sym, ◌∙◌, ◌<◌, ◌-◌, length}
use Rattle.curve_points.proofs.PointLemmas.{before_up_to, after_from}
use Rattle.curve_points.proofs.points.is_place.Goals as goal

pub returns-then-at-eq0-clause-after : goal.returns-then-at-eq0-clause-after
returns-then-at-eq0-clause-after c = λ t k d low high. after_from c.args.reference c.args.nodes.now c.args.day c.args.at k c.index-nodes-at.result d c.requires (sym c.is_before.ensures ∙ c.if-is_before.false) low high

pub returns-else-at-eq0-clause-before : goal.returns-else-at-eq0-clause-before
returns-else-at-eq0-clause-before c = λ t k d low high.
    let within : c.args.at - 1 < length c.args.nodes.now = omega (arith, c.if-at-nodes.false, high) in
    before_up_to c.args.reference c.args.nodes.now c.args.day (c.args.at - 1) k c.index-nodes-at-else-at-eq0.result d c.requires within (sym c.is_before-else-at-eq0.ensures ∙ t) (omega (arith, high))

pub returns-else-at-eq0-clause-after : goal.returns-else-at-eq0-clause-after
returns-else-at-eq0-clause-after c = λ t k d low high. after_from c.args.reference c.args.nodes.now c.args.day c.args.at k c.index-nodes-at.result d c.requires (sym c.is_before.ensures ∙ c.if-is_before.false) low high
