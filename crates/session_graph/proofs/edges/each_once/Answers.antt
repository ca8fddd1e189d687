use Rattle.std.proofs.Common.{arith}
use Rattle.session_graph.proofs.Once.{once_next}
use Rattle.session_graph.proofs.edges.each_once.Goals as goal

pub loop-at-preserved : goal.loop-at-preserved
loop-at-preserved c = record {
  within = let less = c.loop-at-test.true in omega (arith, less);
  once = once_next c.args.objects.now c.loop-at.at c.index-objects-at.result c.loop-at-test.true c.index-objects-at.is
      c.loop-at.once.items c.push_new.new.objects.items c.loop-at.invariant.once c.in_ok-push_new.ensures;
}
