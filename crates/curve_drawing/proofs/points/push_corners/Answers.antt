use Rattle.std.proofs.Common.{refl}
use Rattle.curve_drawing.specs.Points.{corners_of, line_corners}
use Rattle.curve_drawing.proofs.Appending.{parts_more, parts_end}
use Rattle.curve_drawing.proofs.points.push_corners.Goals as goal

pub loop-point-preserved : goal.loop-point-preserved
unfolding line_corners
loop-point-preserved c =
    parts_more (corners_of c.args.plot) (line_corners c.args.plot) (λ x xs. refl) c.args.points.now c.loop-point.point-index
    c.point-item.result _ _ _ c.loop-point-test.true c.point-item.is c.in_ok-push_corners_of.ensures c.loop-point.invariant

pub returns : goal.returns
unfolding line_corners
returns c =
    parts_end (line_corners c.args.plot) refl c.args.points.now c.loop-point.point-index _ _ c.loop-point-test.false c.loop-point.invariant
