use Rattle.curve_points.proofs.SeenLemmas.{later_by, number_at, none_more}
use Rattle.curve_points.proofs.seen.first_outside.Goals as goal

pub number_of-requires : goal.number_of-requires
number_of-requires c = rw (c.index-nodes-at.is) (later_by c.args.reference c.args.nodes.now c.loop-at.at c.index-nodes-at.result c.requires c.loop-at-test.true)

pub returns-in-None : goal.returns-in-None
returns-in-None c = number_at c.args.factor c.args.nodes.now c.loop-at.at c.number_of.result c.index-nodes-at.result c.loop-at-test.true c.index-nodes-at.is c.loop-at.invariant c.in-None.ensures c.number_of.ensures

pub loop-at-preserved : goal.loop-at-preserved
loop-at-preserved c = none_more c.args.factor c.args.nodes.now c.loop-at.at c.index-nodes-at.result c.loop-at-test.true c.index-nodes-at.is c.loop-at.invariant c.in-Some.ensures.1
