use Rattle.std.proofs.Common.{sym, ◌∙◌}
use Rattle.session_graph.proofs.Below.{edges_none, edges_more}
use Rattle.session_graph.proofs.edges.edges_of.Goals as goal

pub loop-number-init : goal.loop-number-init
loop-number-init c = c.new-edges.ensures.items ∙ sym (edges_none c.args.session.now)

pub loop-number-preserved : goal.loop-number-preserved
loop-number-preserved c =
    edges_more c.args.session.now c.loop-number.number c.numbers.result c.desk.result.now c.loop-number.edges.items
    c.push_edges.new.edges.items c.desk.ensures c.numbers.ensures.numbers c.loop-number.invariant c.in_ok-push_edges.ensures
