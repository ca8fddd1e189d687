use Rattle.std.proofs.Common.{sym, ◌∙◌}
use Rattle.curve_points.proofs.PointLemmas.{after_from}
use Rattle.curve_points.proofs.points.place_behind.Goals as goal

pub returns-else-is_before-clause-after : goal.returns-else-is_before-clause-after
returns-else-is_before-clause-after c = λ k d low high. after_from c.args.reference c.args.nodes.now c.args.day c.loop-at.at k c.index-nodes-at.result d c.requires.rising (sym c.is_before.ensures ∙ c.if-is_before.false) low high
