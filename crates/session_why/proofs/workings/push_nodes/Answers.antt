use Rattle.std.proofs.Common.{List, [], ◌∷◌, ℕ, refl}
use Rattle.curve_points.specs.declared.curves.CurveNode.{CurveNode}
use Rattle.graph_dot.proofs.Appending.{parts_more, parts_end}
use Rattle.why_model.specs.Answer.{named, nodes_text}
use Rattle.session_why.proofs.Pieces.{nodes_more}
use Rattle.session_why.proofs.workings.push_nodes.Goals as goal

abbrev one : List ℕ → CurveNode → List ℕ
one name node = nodes_text name (node ∷ [])

pub loop-node-preserved : goal.loop-node-preserved
loop-node-preserved c =
    parts_more (one (named c.args.session.now c.args.object)) (nodes_text (named c.args.session.now c.args.object))
    (nodes_more (named c.args.session.now c.args.object)) c.args.nodes.now c.loop-node.node-index
    c.node-item.result _ _ _ c.loop-node-test.true c.node-item.is c.in_ok-push_node.ensures c.loop-node.invariant

pub returns : goal.returns
returns c =
    parts_end (nodes_text (named c.args.session.now c.args.object)) refl c.args.nodes.now c.loop-node.node-index _ _
    c.loop-node-test.false c.loop-node.invariant
