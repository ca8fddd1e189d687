use Rattle.std.proofs.Common.{refl}
use Rattle.graph_dot.specs.Dot.{node_text, nodes_text}
use Rattle.graph_dot.proofs.Appending.{parts_more, parts_end}
use Rattle.graph_dot.proofs.nodes.push_nodes.Goals as goal

pub loop-node-preserved : goal.loop-node-preserved
unfolding nodes_text
loop-node-preserved c =
    parts_more (node_text c.args.namer.now.names.now c.args.namer.now.of_object.now)
    (nodes_text c.args.namer.now.names.now c.args.namer.now.of_object.now) (λ x xs. refl) c.args.nodes.now
    c.loop-node.node-index c.node-item.result _ _ _ c.loop-node-test.true c.node-item.is c.in_ok-push_node.ensures
    c.loop-node.invariant

pub returns : goal.returns
unfolding nodes_text
returns c =
    parts_end (nodes_text c.args.namer.now.names.now c.args.namer.now.of_object.now) refl c.args.nodes.now
    c.loop-node.node-index _ _ c.loop-node-test.false c.loop-node.invariant
