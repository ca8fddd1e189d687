use Rattle.std.proofs.Common.{◌∙◌, sym, ap, List, [], ◌∷◌, ◌++◌, take, Ok}
use Rattle.std.proofs.lemmas.Bool.{true≢false}
use Rattle.std.proofs.lemmas.List.{take_all}
use Rattle.curve_points.specs.declared.curves.CurveNode.{CurveNode}
use Rattle.curve_points.specs.Implied.{all_seen}
use Rattle.curve_points.proofs.SeenLemmas.{none_at, seen_more, within_none}
use Rattle.curve_points.proofs.seen.pushed_nodes.Goals as goal

pub unreachable-requires : goal.unreachable-requires
unreachable-requires c =
    true≢false (sym c.in-None.ensures ∙ none_at c.args.factor 1 c.args.nodes.now c.loop-node.node-index c.node-item.result c.requires c.loop-node-test.true c.node-item.is)

pub loop-node-preserved : goal.loop-node-preserved
loop-node-preserved c =
    c.in_ok-push-in-Some.ensures.ok ∙ (ap (λ (ns : List CurveNode). ns ++ c.in-Some.found ∷ []) c.loop-node.invariant
    ∙ (ap (λ (n : CurveNode). all_seen c.args.factor (take c.loop-node.node-index c.args.nodes.now) ++ n ∷ []) c.in-Some.ensures.0
    ∙ sym (seen_more c.args.factor c.args.nodes.now c.loop-node.node-index c.node-item.result c.loop-node-test.true c.node-item.is)))

pub returns : goal.returns
returns c =
    let all = c.loop-node.invariant ∙ ap (all_seen c.args.factor) (take_all c.loop-node.node-index c.args.nodes.now c.loop-node-test.false) in
    within_none (all_seen c.args.factor c.args.nodes.now) c.requires ∙ ap (λ (ns : List CurveNode). Ok ns) (sym all)
