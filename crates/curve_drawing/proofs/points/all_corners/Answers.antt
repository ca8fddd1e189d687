use Rattle.std.proofs.Common.{◌++◌, List, refl, ◌∙◌, ap}
use Rattle.curve_drawing.specs.declared.lines.Plot.{Plot}
use Rattle.curve_drawing.specs.declared.lines.PlotPoint.{PlotPoint}
use Rattle.curve_drawing.specs.Lines.{Line}
use Rattle.curve_drawing.specs.declared.points.Corner.{Corner}
use Rattle.curve_drawing.specs.Points.{line_corners, all_corners}
use Rattle.curve_drawing.proofs.Appending.{parts_more, parts_end}
use Rattle.curve_drawing.proofs.points.all_corners.Goals as goal

-- the corners of a line
abbrev part : Plot → Line → List Corner
part plot line = line_corners plot line.points

pub loop-line-init : goal.loop-line-init
loop-line-init c = ap (λ (l : List Corner). l ++ all_corners c.args.plot c.args.lines.now) c.new-corners.ensures.items

pub loop-line-preserved : goal.loop-line-preserved
unfolding all_corners
loop-line-preserved c =
    parts_more (part c.args.plot) (all_corners c.args.plot) (λ x xs. refl) c.args.lines.now c.loop-line.line-index c.line-item.result _ _ _
    c.loop-line-test.true c.line-item.is
    (c.in_ok-push_corners.ensures
    ∙ ap (λ (points : List PlotPoint). c.loop-line.corners.items ++ line_corners c.args.plot points) c.points.ensures)
    c.loop-line.invariant

pub returns : goal.returns
unfolding all_corners
returns c =
    parts_end (all_corners c.args.plot) refl c.args.lines.now c.loop-line.line-index _ _ c.loop-line-test.false c.loop-line.invariant
