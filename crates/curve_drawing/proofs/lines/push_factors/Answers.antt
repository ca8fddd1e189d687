use Rattle.std.proofs.Common.{List, [], ◌∷◌, map, refl}
use Rattle.curve_points.specs.declared.curves.CurveNode.{CurveNode}
use Rattle.curve_drawing.specs.declared.lines.PlotPoint.{PlotPoint}
use Rattle.curve_drawing.specs.Lines.{factor_point}
use Rattle.curve_drawing.proofs.Appending.{parts_more, parts_end}
use Rattle.curve_drawing.proofs.lines.push_factors.Goals as goal

-- the factor of a node
abbrev part : CurveNode → List PlotPoint
part node = factor_point node ∷ []

pub loop-node-preserved : goal.loop-node-preserved
loop-node-preserved c =
    parts_more part (map factor_point) (λ x xs. refl) c.args.nodes.now c.loop-node.node-index c.node-item.result _ _ _
    c.loop-node-test.true c.node-item.is c.in_ok-push_factor.ensures c.loop-node.invariant

pub returns : goal.returns
returns c =
    parts_end (map factor_point) refl c.args.nodes.now c.loop-node.node-index _ _ c.loop-node-test.false c.loop-node.invariant
