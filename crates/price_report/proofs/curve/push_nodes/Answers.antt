use Rattle.std.proofs.Common.{◌≡◌, ◌++◌, ◌+◌, ◌∷◌, ℕ, List, drop, codes, sym, ◌∙◌, ap}
use Rattle.std.proofs.Math.ListN.{drop_of_length-le}
use Rattle.std.proofs.lemmas.List.{append-nil, append_assoc, drop_more}
use Rattle.curve_points.specs.declared.curves.CurveNode.{CurveNode}
use Rattle.price_report.specs.Line.{point_text, node_texts}
use Rattle.price_report.proofs.curve.push_nodes.Goals as goal

pub loop-node-preserved : goal.loop-node-preserved
unfolding node_texts
loop-node-preserved c =
    let at = c.loop-node.node-index in
    let nodes = c.args.nodes.now in
    let item = c.node-item.result in
    let rest = node_texts (drop (at + 1) nodes) in
    let more : drop at nodes ≡ item ∷ drop (at + 1) nodes = drop_more nodes at item c.loop-node-test.true ∙ ap (λ (n : CurveNode). n ∷ drop (at + 1) nodes) (sym c.node-item.is) in
    ap (λ (l : List ℕ). l ++ rest) c.in_ok-push_node.ensures
    ∙ append_assoc c.loop-node.line.items (codes " " ++ point_text item.day item.factor) rest
    ∙ ap (λ (l : List CurveNode). c.loop-node.line.items ++ node_texts l) (sym more)
    ∙ c.loop-node.invariant

pub returns : goal.returns
unfolding node_texts
returns c =
    sym (append-nil c.loop-node.line.items)
    ∙ ap (λ (l : List CurveNode). c.loop-node.line.items ++ node_texts l) (sym (drop_of_length-le c.args.nodes.now c.loop-node-test.false))
    ∙ c.loop-node.invariant
