use Rattle.std.proofs.Common.{refl}
use Rattle.curve_drawing.specs.Svg.{corner_text, corners_text}
use Rattle.curve_drawing.proofs.Appending.{parts_more, parts_end}
use Rattle.curve_drawing.proofs.curves.push_corners.Goals as goal

pub loop-corner-preserved : goal.loop-corner-preserved
unfolding corners_text
loop-corner-preserved c =
    parts_more (corner_text c.args.scale.now) (corners_text c.args.scale.now) (λ x xs. refl) c.args.corners.now c.loop-corner.corner-index c.corner-item.result _ _ _
    c.loop-corner-test.true c.corner-item.is c.in_ok-push_corner.ensures c.loop-corner.invariant

pub returns : goal.returns
unfolding corners_text
returns c =
    parts_end (corners_text c.args.scale.now) refl c.args.corners.now c.loop-corner.corner-index _ _ c.loop-corner-test.false c.loop-corner.invariant
