use Rattle.std.proofs.Common.{refl}
use Rattle.graph_dot.specs.Dot.{edge_text, edges_text}
use Rattle.graph_dot.proofs.Appending.{parts_more, parts_end}
use Rattle.graph_dot.proofs.edges.push_edges.Goals as goal

pub loop-edge-preserved : goal.loop-edge-preserved
unfolding edges_text
loop-edge-preserved c =
    parts_more (edge_text c.args.namer.now.names.now c.args.namer.now.of_object.now)
    (edges_text c.args.namer.now.names.now c.args.namer.now.of_object.now) (λ x xs. refl) c.args.edges.now
    c.loop-edge.edge-index c.edge-item.result _ _ _ c.loop-edge-test.true c.edge-item.is c.in_ok-push_edge.ensures
    c.loop-edge.invariant

pub returns : goal.returns
unfolding edges_text
returns c =
    parts_end (edges_text c.args.namer.now.names.now c.args.namer.now.of_object.now) refl c.args.edges.now
    c.loop-edge.edge-index _ _ c.loop-edge-test.false c.loop-edge.invariant
