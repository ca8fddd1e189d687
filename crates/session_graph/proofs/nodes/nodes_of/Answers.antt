use Rattle.std.proofs.Common.{refl, sym, ◌∙◌}
use Rattle.session_graph.proofs.Below.{nodes_none, nodes_more}
use Rattle.session_graph.proofs.nodes.nodes_of.Goals as goal

pub loop-number-init : goal.loop-number-init
loop-number-init c = record { same = refl; nodes = c.new-nodes.ensures.items ∙ sym (nodes_none c.args.session.now) }

pub loop-number-preserved : goal.loop-number-preserved
loop-number-preserved c = record {
  same = c.push_node.ensures.same ∙ c.loop-number.invariant.same;
  nodes = nodes_more c.args.session.now c.loop-number.session c.loop-number.number c.loop-number.nodes.items
      c.push_node.new.nodes.items c.loop-number.invariant.same c.loop-number.invariant.nodes
      c.in_ok-push_node.ensures.node;
}
